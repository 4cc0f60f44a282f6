use Rattle.std.proofs.Common.{List, ap, ◌∙◌, sym, subst}
use Rattle.ep_machine.specs.State.{Waiter}
use Rattle.ep_calls.specs.Stands.{AreHeld}
use Rattle.ep_calls.proofs.ParkLemmas.{found_placed, held_found, held_left, none_left}
use Rattle.ep_table.specs.Value.{Seen}
use Rattle.ep_calls.proofs.parking.leave.Goals as goal

pub release-requires-clause-live : goal.release-requires-clause-live
release-requires-clause-live c =
    (found_placed c.args.tables.now c.args.waiters.now c.args.caller.0 c.in-Some.waiter c.known.ensures c.known-2.ensures c.requires.placed c.requires.held (sym c.in-Some.ensures.left)).instance

pub release-requires-clause-held : goal.release-requires-clause-held
release-requires-clause-held c = held_found c.args.tables.now c.args.waiters.now c.args.caller.0 c.in-Some.waiter c.known.ensures c.known-2.ensures c.requires.placed c.requires.held (sym c.in-Some.ensures.left)

pub returns-in-Some-clause-held : goal.returns-in-Some-clause-held
returns-in-Some-clause-held c =
    held_left c.args.tables.now c.args.waiters.now c.args.caller.0 c.in-Some.waiter c.known.ensures c.known-2.ensures c.requires.placed c.requires.held (sym c.in-Some.ensures.left) c.release.new.self c.leave.new.self
    (ap (λ (t : Seen). t.holds) c.release.ensures) (ap (λ (t : Seen). t.keys) c.release.ensures) c.leave.ensures.rest

pub returns-in_default-clause-held : goal.returns-in_default-clause-held
returns-in_default-clause-held c =
    subst (λ (ws : List Waiter). AreHeld c.args.tables.now ws) (sym (c.leave.ensures.rest ∙ none_left c.args.caller.0 c.args.waiters.now (sym c.in_default.ensures.left))) c.requires.held
