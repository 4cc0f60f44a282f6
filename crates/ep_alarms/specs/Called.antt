-- The description on whose object an event is a call, or the listener of an accept.
use Rattle.std.specs.Prelude.{◌≡◌, MatchOption, None, Option, Some, ℕ}
use Rattle.ep_base.specs.declared.call.Call.{Call}
use Rattle.ep_base.specs.declared.call.Call.TheVariants.{Accept}
use Rattle.ep_base.specs.declared.call.Event.{Event}
use Rattle.ep_base.specs.declared.call.Event.TheVariants.{Call as CallOf}
use Rattle.ep_base.specs.declared.ids.DescId.{DescId}
use Rattle.ep_base.specs.declared.ids.Fd.{Fd}
use Rattle.ep_base.specs.declared.socket.Hearing.TheVariants.{Nobody}
use Rattle.ep_machine.specs.Files.{Files, under}
use Rattle.ep_machine.specs.Objects.{ObjectCall, asks, object_call}
use Rattle.ep_table.specs.Value.{Seen, number_under as desc_number}

-- the descriptor of a call that is taken apart so, if it is on an object
abbrev pub fd_in : Option (Fd × ObjectCall) → Option Fd
fd_in None = None
fd_in (Some on) = Some on.0

-- what that names
abbrev pub under_in : Files → ℕ → Option Fd → Option ℕ
under_in files p None = None
under_in files p (Some fd) = under files p fd.0

-- its number, if the call is on an object, and its descriptor names one
abbrev pub asked_in : Files → ℕ → Option (Fd × ObjectCall) → Option ℕ
asked_in files p on = under_in files p (fd_in on)

-- the descriptor that it is on
abbrev pub descriptor_in : Call → Option Fd
descriptor_in (Accept fd cloexec) = Some fd
descriptor_in call = fd_in (object_call None Nobody call)

abbrev pub called_in : Files → Event → Option ℕ
called_in files (CallOf p (Accept fd cloexec)) = under files p.0 fd.0
called_in files (CallOf p call) = asked_in files p.0 (asks files.objects call)
called_in files event = None

-- this is its key
abbrev pub IsCalled : Seen → Event → Option DescId → Type 0
IsCalled v event found = MatchOption found (called_in v.files event ≡ None) (λ desc. desc_number v desc ≡ called_in v.files event)
