use Rattle.std.proofs.Common.{Some, ap, is_some, nat_eq, sym, ◌∙◌, ◌≡◌}
use Rattle.std.specs.Map.{lookup}
use Rattle.ep_park.proofs.QueueLemmas.{at_ticket, has_ticket, marked, marked_view, own_turn, turn_there}
use Rattle.ep_park.specs.Queue.{in_turn, marked_in}
use Rattle.ep_park.proofs.queue.Queue.set_mark.Goals as goal

pub index-requires : goal.index-requires
index-requires g c =
    let k = c.args.caller.0 in
    has_ticket c.self.inside.tickets.entries c.self.inside.turns.entries k c.self.invariant.ticketed.each (ap (λ es. is_some (lookup (nat_eq k) es)) c.self.view_is ∙ c.requires)

pub index-turn-requires : goal.index-turn-requires
index-turn-requires g c = turn_there c.self.inside.tickets.entries c.self.inside.turns.entries c.args.caller.0 c.index.result.now c.self.invariant.ticketed c.index.ensures

pub rewrite-requires : goal.rewrite-requires
rewrite-requires g c = ap is_some (sym (at_ticket c.index.result.now c.self.inside.turns.entries) ∙ c.index-turn.ensures)

pub invariant_of-self : goal.invariant_of-self
invariant_of-self g c =
    let ts = c.self.inside.turns.entries in
    let t = c.index.result.now in
    rw c.rewrite.ensures.entries (marked t c.index-turn.result.now c.args.marked ts c.self.inside.tickets.entries c.self.inside.places.entries c.self.inside.last (sym (at_ticket t ts) ∙ c.index-turn.ensures) c.self.invariant)

pub returns : goal.returns
returns g c =
    let ks = c.self.inside.tickets.entries in
    let ts = c.self.inside.turns.entries in
    let k = c.args.caller.0 in
    let t = c.index.result.now in
    let p = c.index-turn.result.now in
    let at : lookup (nat_eq t) ts ≡ Some p = sym (at_ticket t ts) ∙ c.index-turn.ensures in
    ap in_turn c.rewrite.ensures.entries
    ∙ (marked_view ks ts k t p c.args.marked c.self.invariant.ticketed.each c.index.ensures at (own_turn ks ts k t p c.self.invariant.ticketed c.index.ensures at)
    ∙ ap (marked_in k c.args.marked) c.self.view_is)
