-- The versions of a script: the unit of its times, and the number that names each.
use Rattle.std.specs.Prelude.{None, Option, Some, if◌then◌else◌, min, pos, ℕ, ℤ, ◌*ℤ◌, ◌*◌, ◌+◌, ◌-◌, ◌/◌, ◌==◌, ◌^◌}
use Rattle.std.specs.Int.{saturate_signed, w64}
use Rattle.ep_base.specs.declared.call.Call.{Call}
use Rattle.ep_base.specs.declared.call.Call.TheVariants.{EpollWait, SetTime}
use Rattle.ep_base.specs.declared.call.Event.{Event}
use Rattle.ep_base.specs.declared.call.Event.TheVariants.{Call as CallOf, Tick}
use Rattle.ep_version.specs.declared.version.Version.{Version}
use Rattle.ep_version.specs.declared.version.Version.TheVariants.{V1, V2}

-- ---- the unit of a time is the microsecond, and in version 1 of a script the millisecond

-- at most the greatest number of its type
abbrev pub thousandfold : ℕ → ℕ
thousandfold n = min (n * 1000) (2 ^ 64 - 1)

-- the same with a sign, and at least the least one
abbrev pub thousandfold_signed : ℤ → ℤ
thousandfold_signed z = saturate_signed w64 (z *ℤ pos 1000)

-- rounded up, so what is left of a running timer is never 0
abbrev pub shown_in : Version → ℕ → ℕ
shown_in V1 n = (n + 999) / 1000
shown_in V2 n = n

abbrev pub call_in_milliseconds : Call → Call
call_in_milliseconds (EpollWait epfd max timeout) = EpollWait epfd max (thousandfold_signed timeout)
call_in_milliseconds (SetTime fd absolute value interval) = SetTime fd absolute (thousandfold value) (thousandfold interval)
call_in_milliseconds call = call

abbrev pub in_milliseconds : Event → Event
in_milliseconds (Tick n) = Tick (thousandfold n)
in_milliseconds (CallOf pid call) = CallOf pid (call_in_milliseconds call)
in_milliseconds event = event

-- what an event means whose numbers stand in a line of this version
abbrev pub event_in : Version → Event → Event
event_in V1 event = in_milliseconds event
event_in V2 event = event

-- ---- a header names the version by its number

abbrev pub numbered : ℕ → Option Version
numbered n = if n == 1 then Some V1 else if n == 2 then Some V2 else None
