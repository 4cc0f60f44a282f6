use Rattle.std.proofs.Common.{◌≤◌, IsSome, subst, sym}
use Rattle.ep_alarms.specs.Alarms.{AreSet, AreSetBut, IsKept}
use Rattle.ep_calls.specs.Parts.{Parts}
use Rattle.ep_table.specs.Value.{number_under}
use Rattle.ep_alarms.proofs.ChangesLemmas.{call_creates, found_lives, found_set, is_none_of, other_call, other_event}
use Rattle.ep_alarms.proofs.alarms.Alarms.follow.Goals as goal

pub set-requires : goal.set-requires
set-requires c = record { live = subst (λ (r : Parts). IsSome (number_under r.tables c.in-Some.desc)) (sym c.parts.view_is) (found_lives c.args.event.now c.args.called c.args.outcome.now c.args.has_room c.args.parts.now c.args.self.now c.requires.before c.known.ensures.sound c.in-Some.desc c.in-Some.is) }

pub returns-in-Some : goal.returns-in-Some
returns-in-Some c = found_set c.args.event.now c.args.called c.args.outcome.now c.args.has_room c.args.parts.now c.args.self.now c.requires.before c.known.ensures.sound c.in-Some.desc c.in-Some.is c.set.new.self
    (subst (λ (r : Parts). IsKept r.tables c.in-Some.desc.0 c.args.self.now → AreSetBut r.tables r.clock c.in-Some.desc.0 c.args.self.now → AreSet r.tables r.clock c.set.new.self) c.parts.view_is c.set.ensures)

pub returns-in_default-event : goal.returns-in_default-event
returns-in_default-event c = other_event c.args.event.now c.args.called c.args.outcome.now c.args.has_room c.args.parts.now c.args.self.now c.requires.before c.known.ensures.sound c.in_default-event.not-Call

pub add_created-requires-clause-created : goal.add_created-requires-clause-created
add_created-requires-clause-created c = call_creates c.args.event.now c.args.called c.args.outcome.now c.args.has_room c.args.parts.now c.args.self.now c.requires.before c.known.ensures.sound c.in-Call.pid c.in-Call.call c.in-Call.is _ _ c.in-TimerFd.is (subst (λ (r : Parts). r.tables.limits.descriptors ≤ 65536) c.parts.view_is c.know_limits.ensures)

pub returns-in_default-call : goal.returns-in_default-call
returns-in_default-call c = other_call c.args.event.now c.args.called c.args.outcome.now c.args.has_room c.args.parts.now c.args.self.now c.requires.before c.known.ensures.sound c.in-Call.pid c.in-Call.call c.in-Call.is (is_none_of c.args.called c.in_default.not-Some) c.in_default-call.not-TimerFd
