use Rattle.std.proofs.Common.{Some, ap, is_some, nat_eq, sym, ◌∙◌, ◌≡◌}
use Rattle.std.specs.Map.{lookup, remove_entry, values_of}
use Rattle.ep_nest.proofs.TurnLemmas.{at_ticket, none_without, not_among, removed, removed_view, ticket_test, turn_of}
use Rattle.ep_nest.specs.Links.{without}
use Rattle.ep_nest.proofs.links.Links.remove.Goals as goal

pub returns-in_default : goal.returns-in_default
returns-in_default g c =
    let q = c.args.entry.0 in
    let ts = c.self.inside.turns.entries in
    none_without q (values_of ts) (not_among q ts (sym (c.self.invariant.ticketed q) ∙ sym c.in_default.ensures.value)) ∙ ap (without q) c.self.view_is

pub unwrap-link-requires : goal.unwrap-link-requires
unwrap-link-requires g c =
    let q = c.args.entry.0 in
    let t = c.in-Some.ticket in
    let ts = c.self.inside.turns.entries in
    let turn = turn_of q t ts c.self.invariant.numbered.rise (sym (c.self.invariant.ticketed q) ∙ sym c.in-Some.ensures.value) in
    ap is_some (c.remove.ensures.value ∙ (at_ticket t ts ∙ turn.1))

pub invariant_of-self-2 : goal.invariant_of-self-2
invariant_of-self-2 g c =
    let links = c.self.inside in
    let q = c.args.entry.0 in
    let t = c.in-Some.ticket in
    let ts = links.turns.entries in
    let l = c.unwrap-link.result in
    let found : lookup (nat_eq t) ts ≡ Some l = sym (at_ticket t ts) ∙ (sym c.remove.ensures.value ∙ c.unwrap-link.ensures) in
    removed ts links.tickets.entries links.down links.up links.last c.self.invariant c.remove.new.self.entries c.swap_remove.new.self.entries c.take.new.self c.take-2.new.self q t l
    (sym (c.self.invariant.ticketed q) ∙ sym c.in-Some.ensures.value) found (c.remove.ensures.entries ∙ ap (λ f. remove_entry f ts) (ticket_test t)) c.remove.ensures.ordered
    c.swap_remove.ensures.updates.0 c.take.ensures c.take-2.ensures

pub returns : goal.returns
returns g c =
    let q = c.args.entry.0 in
    let t = c.in-Some.ticket in
    let ts = c.self.inside.turns.entries in
    let at = sym (c.self.invariant.ticketed q) ∙ sym c.in-Some.ensures.value in
    ap values_of (c.remove.ensures.entries ∙ ap (λ f. remove_entry f ts) (ticket_test t))
    ∙ (removed_view q t ts c.self.invariant.numbered.rise c.self.invariant.distinct at ∙ ap (without q) c.self.view_is)
