-- Calls on the tables alone.
use Rattle.std.specs.List.{list_any}
use Rattle.std.specs.Prelude.{◌≡◌, List, None, ℕ}
use Rattle.ep_base.specs.declared.answer.Answer.{Answer}
use Rattle.ep_base.specs.declared.answer.Answer.TheVariants.{Refused}
use Rattle.ep_base.specs.declared.call.Call.{Call}
use Rattle.ep_base.specs.declared.call.Call.TheVariants.{EpollCtl, EpollWait, TimerFd}
use Rattle.ep_base.specs.declared.socket.Hearing.TheVariants.{Nobody}
use Rattle.ep_machine.specs.FilesCalls.{FilesCall, files_call}
use Rattle.ep_machine.specs.Objects.{object_call}
use Rattle.ep_machine.specs.State.{Waiter}
use Rattle.ep_park.specs.Waiters.{is_of}
use Rattle.ep_calls.specs.declared.raising.Raising.{Raising}
use Rattle.ep_calls.specs.declared.raising.Raising.TheVariants.{Losses, Nowhere}
use Rattle.ep_table.specs.Value.{Seen}

-- a call that opens descriptors of a new object, or one on descriptors or the process: any other is on a registration,
-- a wait, or on an object
abbrev pub IsTableCall : Call → Type 0
IsTableCall (EpollCtl epfd op fd mask tag) = ⊥
IsTableCall (EpollWait epfd most timeout) = ⊥
IsTableCall call = object_call None Nobody call ≡ None

-- a call that makes a timer
abbrev pub MakesTimer : Call → Type 0
MakesTimer (TimerFd clock cloexec) = Unit {0}
MakesTimer call = ⊥

-- where it raises, by its answer
abbrev pub raised_by : Answer → Raising
raised_by (Refused e) = Nowhere
raised_by answer = Losses

-- what the machine has of such a call, with these waiters
abbrev pub called : Seen → List Waiter → ℕ → Call → FilesCall
called v ws p call = files_call v.limits v.files p (list_any (is_of p) ws) call
