-- Which timers a call on the tables alone leaves as they were.
use Rattle.std.proofs.Common.{◌≡◌, ◌≢◌, ◌∙◌, ℕ, ℤ, Bool, [], true, false, pos, negsuc, Some, cond, length, refl}
use Rattle.ep_base.specs.Limits.{Limits}
use Rattle.ep_base.specs.declared.call.Call.{Call}
use Rattle.ep_base.specs.declared.call.Call.TheVariants.{Accept, Close, Dup2, EpollCreate, EventFd, Exec, Exit, Pipe as PipeCall, Plain, Socket, SocketPair, TimerFd}
use Rattle.ep_machine.specs.Connections.{abandoned, pending_in}
use Rattle.ep_machine.specs.Files.{Files, named_by, numbers_of, object_number, object_under, place_of}
use Rattle.ep_machine.specs.FilesCalls.{files_call}
use Rattle.ep_machine.specs.Lists.{place_at}
use Rattle.ep_machine.specs.Tables.{close, dup2, exec, exit, same_number, slot, with_table}
use Rattle.ep_machine.specs.Timer.{new_timer}
use Rattle.ep_alarms.proofs.AreSetLemmas.{timer_in}
use Rattle.ep_alarms.proofs.ConnectionLemmas.{accept_left, all_left}
use Rattle.ep_alarms.proofs.MadeLemmas.{HaveObjects, one_is, one_made, one_other, two_other}

-- any call but timerfd_create
abbrev pub MakesNoTimer : Call → Type 0
MakesNoTimer (TimerFd clock cloexec) = ⊥
MakesNoTimer call = Unit {0}

-- another name of a description
name_again : (f : Files) (p : ℕ) (fd to : ℤ) (e : ℕ) (d : ℕ) → timer_in (dup2 f p fd to e) d ≡ timer_in f d
name_again f p fd (negsuc k) e d = refl
name_again f p fd (pos k) e d = by_test (same_number fd (pos k)) where
  by_test : (b : Bool) → timer_in (cond b f (with_table f p (place_at (numbers_of f p) k (slot e false)))) d ≡ timer_in f d
  by_test true = refl
  by_test false = refl

-- a call that makes no timer leaves each
pub others_left : (limits : Limits) (f : Files) (p : ℕ) (busy : Bool) (call : Call) → HaveObjects f → MakesNoTimer call → (d : ℕ) → timer_in (files_call limits f p busy call).after d ≡ timer_in f d
others_left limits f p busy (PipeCall cloexec) objects is d = two_other f _ p cloexec objects refl d
others_left limits f p busy (SocketPair cloexec) objects is d = two_other f _ p cloexec objects refl d
others_left limits f p busy (EventFd init semaphore cloexec) objects is d = one_other f _ p cloexec objects refl d
others_left limits f p busy (Socket family cloexec) objects is d = one_other f _ p cloexec objects refl d
others_left limits f p busy (Plain cloexec) objects is d = one_other f _ p cloexec objects refl d
others_left limits f p busy (EpollCreate cloexec) objects is d = one_other f _ p cloexec objects refl d
others_left limits f p busy (Dup2 fd to) objects is d =
    let after = dup2 f p fd.0 to.0 (named_by f p fd.0) in
    all_left after [] (abandoned after) d ∙ name_again f p fd.0 to.0 (named_by f p fd.0) d
others_left limits f p busy (Close fd) objects is d = all_left (close f p fd.0) [] (abandoned (close f p fd.0)) d
others_left limits f p busy Exec objects is d = all_left (exec f p) [] (abandoned (exec f p)) d
others_left limits f p busy Exit objects is d = all_left (exit f p) [] (abandoned (exit f p)) d
others_left limits f p busy (Accept fd cloexec) objects is d =
    accept_left f p (object_number (place_of f (named_by f p fd.0))) (pending_in (object_under f p fd.0)) cloexec d
others_left limits f p busy (TimerFd clock cloexec) objects is d = absurd is
others_left limits f p busy call objects is d = refl

-- a new timer is what the next description shows
pub timer_made : (limits : Limits) (f : Files) (p : ℕ) (busy : Bool) (clock : ℤ) (cloexec : Bool) → timer_in (files_call limits f p busy (TimerFd clock cloexec)).after (length f.descriptions) ≡ Some new_timer
timer_made limits f p busy clock cloexec = one_is f _ p cloexec

-- and no other changes
pub made_alone : (limits : Limits) (f : Files) (p : ℕ) (busy : Bool) (clock : ℤ) (cloexec : Bool) → HaveObjects f
    → (d : ℕ) → d ≢ length f.descriptions → timer_in (files_call limits f p busy (TimerFd clock cloexec)).after d ≡ timer_in f d
made_alone limits f p busy clock cloexec objects d ne = one_made f _ p cloexec objects d ne
