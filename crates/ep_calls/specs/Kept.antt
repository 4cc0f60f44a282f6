-- Which outcomes have what a second record of their event is made of.
use Rattle.std.specs.Prelude.{◌≡◌, Bool, None, Option, Some, true}
use Rattle.ep_base.specs.declared.call.Call.{Call}
use Rattle.ep_base.specs.declared.call.Call.TheVariants.{EpollWait}
use Rattle.ep_base.specs.declared.call.Event.{Event}
use Rattle.ep_base.specs.declared.call.Event.TheVariants.{Call as CallOf, Resume, Tick}
use Rattle.ep_base.specs.declared.ids.Fd.{Fd}
use Rattle.ep_base.specs.declared.socket.Hearing.TheVariants.{Nobody}
use Rattle.ep_machine.specs.Objects.{ObjectCall, object_call}
use Rattle.ep_calls.specs.KeptRecords.{IsInline, spare_in}
use Rattle.ep_calls.specs.declared.outcome.Outcome.{Outcome}

-- where a second record is asked for, there is a copy, or none is needed
abbrev pub IsKept : Bool → Outcome → Type 0
IsKept kept outcome = kept ≡ true → spare_in outcome.copies ≡ None → IsInline outcome.answer outcome.picked

-- the same of the calls that may answer at length: a wait, and one on an object
abbrev pub KeepsAsked : Option (Fd × ObjectCall) → Bool → Outcome → Type 0
KeepsAsked None kept outcome = Unit {0}
KeepsAsked (Some on) kept outcome = IsKept kept outcome

abbrev pub KeepsCall : Call → Bool → Outcome → Type 0
KeepsCall (EpollWait epfd most timeout) kept outcome = IsKept kept outcome
KeepsCall call kept outcome = KeepsAsked (object_call None Nobody call) kept outcome

abbrev pub KeepsEvent : Event → Bool → Outcome → Type 0
KeepsEvent (CallOf pid call) kept outcome = KeepsCall call kept outcome
KeepsEvent Resume kept outcome = IsKept kept outcome
KeepsEvent (Tick k) kept outcome = Unit {0}
