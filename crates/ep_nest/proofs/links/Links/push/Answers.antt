use Rattle.std.proofs.Common.{Some, ap, arith, cond, nat_eq, ◌+◌, ◌∙◌}
use Rattle.std.specs.Map.{keys_of, lookup}
use Rattle.ep_machine.specs.Lists.{is_among}
use Rattle.ep_nest.proofs.TurnLemmas.{kept, next_is_above, placed_below, pushed, undone}
use Rattle.ep_nest.specs.Links.{entries}
use Rattle.ep_nest.specs.declared.link.Way.TheVariants.{Down, Up}
use Rattle.ep_nest.proofs.links.Links.push.Goals as goal

pub add-requires : goal.add-requires
add-requires g c =
    let links = c.self.inside in
    placed_below links.turns.entries links.tickets.entries links.down links.up links.last c.self.invariant Down links.down c.args.link.outer.0 (links.last + 1) c.self.invariant.down (omega arith)

pub add_above-requires-clause-last : goal.add_above-requires-clause-last
add_above-requires-clause-last g c =
    let links = c.self.inside in
    next_is_above links.last (links.last + 1) (keys_of links.turns.entries) (omega arith) c.self.invariant.numbered.within

pub add_above-requires-clause-last_above : goal.add_above-requires-clause-last_above
add_above-requires-clause-last_above g c =
    let links = c.self.inside in
    placed_below links.turns.entries links.tickets.entries links.down links.up links.last c.self.invariant Up links.up c.args.link.inner.0 (links.last + 1) c.self.invariant.up (omega arith)

pub invariant_of-self-in-Err : goal.invariant_of-self-in-Err
invariant_of-self-in-Err g c =
    let links = c.self.inside in
    let ts = links.turns.entries in
    let ks = links.tickets.entries in
    let k = c.args.link.outer.0 in
    let t = links.last + 1 in
    let under = placed_below ts ks links.down links.up links.last c.self.invariant Down links.down k t c.self.invariant.down (omega arith) in
    kept ts ks links.down links.up links.last c.self.invariant c.add_above.new.turns.entries c.reserve.new.self.entries c.take.new.self c.add_above.new.up
    c.in-Err.ensures.turns_kept c.in_ok-reserve.ensures.entries (undone links.down c.add.new.self c.take.new.self k t c.args.link under c.in_ok-add.ensures.added c.take.ensures) c.in-Err.ensures.kept

pub invariant_of-self-2 : goal.invariant_of-self-2
invariant_of-self-2 g c =
    let links = c.self.inside in
    let ts = links.turns.entries in
    let ks = links.tickets.entries in
    let q = c.args.link.entry.0 in
    let adds = c.in-Ok.ensures.added in
    let tickets = rw c.unwrap.ensures at c.insert.ensures.updates in
    pushed ts ks links.down links.up links.last c.self.invariant c.add_above.new.turns.entries c.insert.new.self.entries c.add.new.self c.add_above.new.up (links.last + 1) c.args.link
    (omega arith) (ap (λ ls. is_among (entries ls) q) c.self.view_is ∙ c.requires) adds.all adds.rise
    (λ r. tickets.0 r ∙ (λ i. cond (nat_eq q r) (Some (links.last + 1)) (lookup (nat_eq r) (c.in_ok-reserve.ensures.entries i))))
    c.in_ok-add.ensures.added adds.above
