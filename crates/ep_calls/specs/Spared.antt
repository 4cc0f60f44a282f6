-- Which events are not answered ENOMEM while there is room for their record.
use Rattle.std.specs.Prelude.{◌≡◌, ◌≤◌, None, Option, Some, false, min, ℕ, ℤ}
use Rattle.ep_base.specs.declared.call.Call.{Call}
use Rattle.ep_base.specs.declared.call.Call.TheVariants.{Close, EpollCtl, Exec, Exit}
use Rattle.ep_base.specs.declared.call.Event.{Event}
use Rattle.ep_base.specs.declared.call.Event.TheVariants.{Call as CallOf, Resume, Tick}
use Rattle.ep_base.specs.declared.ids.Fd.{Fd}
use Rattle.ep_machine.specs.Files.{Files, object_under, side_under}
use Rattle.ep_machine.specs.Objects.{ObjectCall, asks}
use Rattle.ep_machine.specs.Watches.{is_add}
use Rattle.ep_object.specs.Asked.{takes_name}
use Rattle.ep_object.specs.Memory.{asked_of, object_waiting}

-- how many of the bytes that wait at what a descriptor number names a call could give; 0 where it names nothing
abbrev pub waiting_under : Files → ℕ → ℤ → ObjectCall → ℕ
waiting_under files p fd asked = object_waiting (object_under files p fd) (side_under files p fd) asked

-- a call that closes descriptors and opens none
abbrev pub Frees : Call → Type 0
Frees (Close fd) = Unit {0}
Frees Exec = Unit {0}
Frees Exit = Unit {0}
Frees call = ⊥

-- a call of a process that needs no memory but for its record: what was made, added or parked took the room for its
-- end, 16 bytes that are read or peeked at stand in the answer itself, and no name is taken
abbrev pub AsksForNone : Files → ℕ → Call → Option (Fd × ObjectCall) → Type 0
AsksForNone files p call None = Frees call
AsksForNone files p call (Some on) =
    (takes_name on.1 ≡ false) × (min (asked_of on.1) (waiting_under files p on.0.0 on.1) ≤ 16)

abbrev pub TakesNoMemory : Files → ℕ → Call → Type 0
TakesNoMemory files p (EpollCtl epfd op fd mask tag) = is_add op ≡ false
TakesNoMemory files p call = AsksForNone files p call (asks files.objects call)

-- an event that is spared ENOMEM, with these files before it: it needs no memory but for its record
abbrev pub IsSpared : Files → Event → Type 0
IsSpared files (CallOf pid call) = TakesNoMemory files pid.0 call
IsSpared files Resume = ⊥
IsSpared files (Tick n) = Unit {0}
