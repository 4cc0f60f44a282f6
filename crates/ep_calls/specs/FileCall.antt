-- Calls on files: on the object that a descriptor names, or on the tables alone.
use Rattle.std.specs.Prelude.{None, Option, Some, ℕ}
use Rattle.ep_base.specs.declared.answer.Answer.{Answer}
use Rattle.ep_base.specs.declared.call.Call.{Call}
use Rattle.ep_base.specs.declared.call.Call.TheVariants.{EpollCtl, EpollWait}
use Rattle.ep_base.specs.declared.ids.Fd.{Fd}
use Rattle.ep_calls.specs.ObjectCall.{CallsObject}
use Rattle.ep_calls.specs.Parts.{Parts}
use Rattle.ep_calls.specs.TableCall.{called}
use Rattle.ep_machine.specs.Objects.{ObjectCall, asks}
use Rattle.ep_table.specs.Value.{Does}

-- neither a call on a registration nor a wait
abbrev pub IsFileCall : Call → Type 0
IsFileCall (EpollCtl epfd op fd mask tag) = ⊥
IsFileCall (EpollWait epfd most timeout) = ⊥
IsFileCall call = Unit {0}

-- what a call does to the tables that is taken apart so, and what a call on files does
abbrev pub CallsAsked : ℕ → Call → Option (Fd × ObjectCall) → Answer → Parts → Parts → Type 0
CallsAsked p call None answer old new = Does (called old.tables old.parked p call) answer old.tables new.tables
CallsAsked p call (Some on) answer old new = CallsObject p on.0 old.clock on.1 answer old.tables new.tables

abbrev pub CallsFiles : ℕ → Call → Answer → Parts → Parts → Type 0
CallsFiles p call answer old new = CallsAsked p call (asks old.tables.files.objects call) answer old new
