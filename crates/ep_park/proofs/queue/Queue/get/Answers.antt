use Rattle.std.proofs.Common.{List, ap, nat_eq, subst, sym, ◌∙◌, ℕ}
use Rattle.std.specs.List.{IsDistinct}
use Rattle.std.specs.Map.{keys_of, lookup}
use Rattle.ep_park.proofs.QueueLemmas.{at_ticket, callers_apart, found_none, turn_found, turn_there}
use Rattle.ep_park.specs.declared.waiter.Waiter.{Waiter}
use Rattle.ep_park.proofs.queue.Queue.get.Goals as goal

pub returns-in_err-ticket-clause-value : goal.returns-in_err-ticket-clause-value
returns-in_err-ticket-clause-value g c =
    let k = c.args.caller.0 in
    c.from_residual.ensures
    ∙ (sym (found_none c.self.inside.tickets.entries c.self.inside.turns.entries k c.self.invariant.ticketed.each (sym c.in_err-ticket.ensures.value))
    ∙ ap (lookup (nat_eq k)) c.self.view_is)

pub returns-in_err-ticket-clause-unique : goal.returns-in_err-ticket-clause-unique
returns-in_err-ticket-clause-unique g c =
    subst (λ (es : List (ℕ × Waiter)). IsDistinct nat_eq (keys_of es)) c.self.view_is
    (callers_apart c.self.inside.tickets.entries c.self.inside.turns.entries c.self.invariant.ticketed.each c.self.invariant.numbered.rise)

pub index-requires : goal.index-requires
index-requires g c = turn_there c.self.inside.tickets.entries c.self.inside.turns.entries c.args.caller.0 c.in_ok-ticket.ticket.now c.self.invariant.ticketed (sym c.in_ok-ticket.ensures.value)

pub returns-clause-value : goal.returns-clause-value
returns-clause-value g c =
    let ts = c.self.inside.turns.entries in
    let t = c.in_ok-ticket.ticket.now in
    turn_found c.self.inside.tickets.entries ts c.args.caller.0 t c.index.result.now c.self.invariant.ticketed (sym c.in_ok-ticket.ensures.value) (sym (at_ticket t ts) ∙ c.index.ensures)
    ∙ ap (lookup (nat_eq c.args.caller.0)) c.self.view_is

pub returns-clause-unique : goal.returns-clause-unique
returns-clause-unique g c =
    subst (λ (es : List (ℕ × Waiter)). IsDistinct nat_eq (keys_of es)) c.self.view_is
    (callers_apart c.self.inside.tickets.entries c.self.inside.turns.entries c.self.invariant.ticketed.each c.self.invariant.numbered.rise)
