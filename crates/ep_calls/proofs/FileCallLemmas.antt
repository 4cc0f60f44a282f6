-- A call on files as it is taken apart.
use Rattle.std.proofs.Common.{◌≡◌, List, None, Option, Some, true}
use Rattle.std.proofs.lemmas.Bool.{false≢true}
use Rattle.std.proofs.lemmas.Option.{none-some}
use Rattle.ep_base.specs.declared.socket.Hearing.TheVariants.{Nobody}
use Rattle.ep_base.specs.declared.call.Call.{Call}
use Rattle.ep_base.specs.declared.call.Call.TheVariants.{EpollCtl, EpollWait, TimerFd}
use Rattle.ep_base.specs.declared.ids.Fd.{Fd}
use Rattle.ep_calls.specs.FileCall.{IsFileCall}
use Rattle.ep_calls.specs.TableCall.{IsTableCall, MakesTimer}
use Rattle.ep_calls.proofs.AskedLemmas.{none_anyway}
use Rattle.ep_object.specs.Asked.{is_naming}
use Rattle.ep_machine.specs.Objects.{Object, ObjectCall, asks, found_for, hearing, is_taken}

-- one that is on no object is on the tables alone
pub is_table_call : (objects : List (Option Object)) (call : Call) → IsFileCall call → asks objects call ≡ None → IsTableCall call
is_table_call objects (EpollCtl epfd op fd mask tag) t h = absurd t
is_table_call objects (EpollWait epfd most timeout) t h = absurd t
is_table_call objects call t h = none_anyway (found_for (is_taken objects) call) None (hearing objects call) Nobody call h

-- a bind, a listen or a connect makes no timer
pub names_no_timer : (call : Call) → is_naming call ≡ true → MakesTimer call → ⊥
names_no_timer (TimerFd clock cloexec) h made = absurd (false≢true h)
names_no_timer call h made = made

-- and is a call on files
pub names_file : (call : Call) → is_naming call ≡ true → IsFileCall call
names_file (EpollCtl epfd op fd mask tag) h = cc
names_file (EpollWait epfd most timeout) h = cc
names_file call h = tt

-- and one that is on an object makes no timer
pub makes_no_timer : (objects : List (Option Object)) (call : Call) (on : Fd × ObjectCall) → asks objects call ≡ Some on → MakesTimer call → ⊥
makes_no_timer objects (TimerFd clock cloexec) on h made = none-some on h
makes_no_timer objects call on h made = made
