use Rattle.std.proofs.Common.{List, None, Some, ap, cond, is_some, nat_eq, subst, sym, ◌∙◌, ◌≡◌, ℕ}
use Rattle.std.specs.BTreeMap.{is_at}
use Rattle.std.specs.List.{IsDistinct}
use Rattle.std.specs.Map.{keys_of, lookup, remove_entry}
use Rattle.std.specs.Ordering.{is_eq}
use Rattle.ep_park.proofs.QueueLemmas.{at_ticket, callers_apart, found_none, less_by_number, none_removed, own_turn, removed, removed_view, ticket_test, turn_found, turn_there}
use Rattle.ep_park.specs.Queue.{in_turn, place_cmp}
use Rattle.ep_park.specs.declared.waiter.Waiter.{Waiter}
use Rattle.ep_park.proofs.queue.Queue.remove.Goals as goal

pub returns-in_err-ticket-clause-value : goal.returns-in_err-ticket-clause-value
returns-in_err-ticket-clause-value g c =
    let k = c.args.caller.0 in
    c.from_residual.ensures
    ∙ (sym (found_none c.self.inside.tickets.entries c.self.inside.turns.entries k c.self.invariant.ticketed.each (sym c.in_err-ticket.ensures.value))
    ∙ ap (lookup (nat_eq k)) c.self.view_is)

pub returns-in_err-ticket-clause-rest : goal.returns-in_err-ticket-clause-rest
returns-in_err-ticket-clause-rest g c =
    let k = c.args.caller.0 in
    let ts = c.self.inside.turns.entries in
    none_removed k (in_turn ts) (found_none c.self.inside.tickets.entries ts k c.self.invariant.ticketed.each (sym c.in_err-ticket.ensures.value))
    ∙ ap (remove_entry (nat_eq k)) c.self.view_is

pub returns-in_err-ticket-clause-unique : goal.returns-in_err-ticket-clause-unique
returns-in_err-ticket-clause-unique g c =
    subst (λ (es : List (ℕ × Waiter)). IsDistinct nat_eq (keys_of es)) c.self.view_is
    (callers_apart c.self.inside.tickets.entries c.self.inside.turns.entries c.self.invariant.ticketed.each c.self.invariant.numbered.rise)

pub unwrap-turn-requires : goal.unwrap-turn-requires
unwrap-turn-requires g c =
    ap is_some c.remove.ensures.value
    ∙ turn_there c.self.inside.tickets.entries c.self.inside.turns.entries c.args.caller.0 c.in_ok-ticket.ticket c.self.invariant.ticketed (sym c.in_ok-ticket.ensures.value)

pub invariant_of-self-2 : goal.invariant_of-self-2
invariant_of-self-2 g c =
    let ks = c.self.inside.tickets.entries in
    let ts = c.self.inside.turns.entries in
    let ps = c.self.inside.places.entries in
    let k = c.args.caller.0 in
    let t = c.in_ok-ticket.ticket in
    let p = c.unwrap-turn.result in
    let has = sym c.in_ok-ticket.ensures.value in
    let at : lookup (nat_eq t) ts ≡ Some p = sym (at_ticket t ts) ∙ (sym c.remove.ensures.value ∙ c.unwrap-turn.ensures) in
    removed ts c.remove.new.self.entries ks c.swap_remove.new.self.entries ps c.remove-2.new.self.entries c.self.inside.last k t p c.self.invariant has at (own_turn ks ts k t p c.self.invariant.ticketed has at)
    (c.remove.ensures.entries ∙ ap (λ f. remove_entry f ts) (ticket_test t)) (less_by_number t ts c.remove.new.self.entries c.remove.ensures.updates.0) c.remove.ensures.ordered
    c.swap_remove.ensures.updates.0 (λ q. c.remove-2.ensures.updates.0 q ∙ (λ i. cond (is_eq (place_cmp (c.new-place.ensures i) q)) None (lookup (is_at (place_cmp q)) ps)))

pub returns-clause-value : goal.returns-clause-value
returns-clause-value g c =
    let ts = c.self.inside.turns.entries in
    let t = c.in_ok-ticket.ticket in
    turn_found c.self.inside.tickets.entries ts c.args.caller.0 t c.unwrap-turn.result c.self.invariant.ticketed (sym c.in_ok-ticket.ensures.value) (sym (at_ticket t ts) ∙ (sym c.remove.ensures.value ∙ c.unwrap-turn.ensures))
    ∙ ap (lookup (nat_eq c.args.caller.0)) c.self.view_is

pub returns-clause-rest : goal.returns-clause-rest
returns-clause-rest g c =
    let ks = c.self.inside.tickets.entries in
    let ts = c.self.inside.turns.entries in
    let k = c.args.caller.0 in
    let t = c.in_ok-ticket.ticket in
    let p = c.unwrap-turn.result in
    let has = sym c.in_ok-ticket.ensures.value in
    let at : lookup (nat_eq t) ts ≡ Some p = sym (at_ticket t ts) ∙ (sym c.remove.ensures.value ∙ c.unwrap-turn.ensures) in
    ap in_turn (c.remove.ensures.entries ∙ ap (λ f. remove_entry f ts) (ticket_test t))
    ∙ (removed_view ks ts k t p c.self.invariant.ticketed.each has at (own_turn ks ts k t p c.self.invariant.ticketed has at) ∙ ap (remove_entry (nat_eq k)) c.self.view_is)

pub returns-clause-unique : goal.returns-clause-unique
returns-clause-unique g c =
    subst (λ (es : List (ℕ × Waiter)). IsDistinct nat_eq (keys_of es)) c.self.view_is
    (callers_apart c.self.inside.tickets.entries c.self.inside.turns.entries c.self.invariant.ticketed.each c.self.invariant.numbered.rise)
