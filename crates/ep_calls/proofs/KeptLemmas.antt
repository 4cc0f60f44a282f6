-- What an event answers takes no memory to copy, or there is a copy.
use Rattle.std.proofs.Common.{◌≡◌, ◌≤◌, ℕ, ℤ, Bool, false, true, if◌then◌else◌, List, [], ◌∷◌, Option, None, Some, arith, length, subst, sym}
use Rattle.std.specs.Prelude.{MatchOption}
use Rattle.ep_base.specs.declared.socket.Hearing.{Hearing}
use Rattle.ep_base.specs.declared.socket.Hearing.TheVariants.{Nobody}
use Rattle.ep_base.specs.Answer.{FitsInline}
use Rattle.ep_base.specs.Limits.{Limits}
use Rattle.ep_base.specs.declared.answer.Answer.{Answer}
use Rattle.ep_base.specs.declared.call.Call.{Call}
use Rattle.ep_base.specs.declared.call.Call.TheVariants.{Bind, EpollCtl, EpollWait, Pipe as PipeCall}
use Rattle.ep_base.specs.declared.call.Event.{Event}
use Rattle.ep_base.specs.declared.call.Event.TheVariants.{Call as CallOf, Resume, Tick}
use Rattle.ep_base.specs.declared.errno.Errno.{Errno}
use Rattle.ep_base.specs.declared.ids.Fd.{Fd}
use Rattle.ep_base.specs.declared.socket.Name.{Name}
use Rattle.ep_machine.specs.Files.{Files}
use Rattle.ep_machine.specs.FilesCalls.{files_call}
use Rattle.ep_machine.specs.Objects.{ObjectCall, asks, found_for, hearing, is_taken, object_call}
use Rattle.ep_machine.specs.Refusal.{refusals}
use Rattle.ep_machine.specs.Report.{plainly}
use Rattle.ep_machine.specs.State.{Change, State}
use Rattle.ep_machine.specs.Step.{call_change, change, change_on}
use Rattle.ep_machine.specs.Waits.{has_parked}
use Rattle.ep_machine.specs.Watches.{ctl, is_add, is_del}
use Rattle.ep_calls.specs.Kept.{IsKept, KeepsAsked, KeepsCall, KeepsEvent}
use Rattle.ep_calls.specs.KeptRecords.{IsInline, spare_in}
use Rattle.ep_calls.specs.Moves.{Goes, Makes, Refuses}
use Rattle.ep_calls.specs.Parts.{Parts}
use Rattle.ep_calls.specs.TableCall.{IsTableCall}
use Rattle.ep_calls.specs.declared.outcome.Outcome.{Outcome}

told_plainly : (picked : List ℕ) (x made : Change) (answer : Answer) → plainly picked x ≡ Some made → made.0 ≡ answer → FitsInline x.0 → IsInline answer picked
told_plainly [] x made answer is same fits = let e : x.0 ≡ answer = cc in (subst FitsInline e fits, omega arith)
told_plainly (k ∷ ks) x made answer is same fits = absurd cc

-- a registration is changed with no word
if_fits : (b : Bool) (x y : Change) → FitsInline x.0 → FitsInline y.0 → FitsInline (if b then x else y).0
if_fits true x y f g = f
if_fits false x y f g = g

ctl_fits : (s : State) (p : ℕ) (epfd op fd : ℤ) (mask tag : ℕ) → FitsInline (ctl s p epfd op fd mask tag).0
ctl_fits s p epfd op fd mask tag = if_fits (is_add op) _ _ tt (if_fits (is_del op) _ _ tt tt)

-- a call on the tables alone answers a number or two, or with no word
files_fit : (limits : Limits) (f : Files) (p : ℕ) (busy : Bool) (call : Call) → FitsInline (files_call limits f p busy call).answer
files_fit limits f p busy (PipeCall cloexec) = tt
files_fit limits f p busy call = tt

-- whatever name was found for it
kept_anyway : (a b : Option Name) (x y : Hearing) (call : Call) (kept : Bool) (o : Outcome) → KeepsAsked (object_call a x call) kept o → KeepsAsked (object_call b y call) kept o
kept_anyway a b x y (Bind fd name) kept o h = h
kept_anyway a b x y call kept o h = h

module _ (limits : Limits) (s : State) (caller : ℕ) (o : Outcome) (kept : Bool) (asked : kept ≡ true) (none : spare_in o.copies ≡ None) where
  told_asked : (p : ℕ) (call : Call) (on : Option (Fd × ObjectCall)) (made : Change) → plainly o.picked (change_on limits s p call on) ≡ Some made → made.0 ≡ o.answer → KeepsAsked on kept o → IsInline o.answer o.picked
  told_asked p call (Some on) made is same keeps = keeps asked none
  told_asked p call None made is same keeps = told_plainly o.picked _ made o.answer is same (files_fit limits s.files p (has_parked s p) call)

  told_call : (p : ℕ) (call : Call) (made : Change) → call_change limits s caller p call o.picked ≡ Some made → made.0 ≡ o.answer → KeepsCall call kept o → IsInline o.answer o.picked
  told_call p (EpollCtl epfd op fd mask tag) made is same keeps = told_plainly o.picked _ made o.answer is same (ctl_fits s p epfd.0 op fd.0 mask.0 tag)
  told_call p (EpollWait epfd most timeout) made is same keeps = keeps asked none
  told_call p call made is same keeps =
      told_asked p call (asks s.files.objects call) made is same (kept_anyway None (found_for (is_taken s.files.objects) call) Nobody (hearing s.files.objects call) call kept o keeps)

  told : (r : Option Errno) (c : Option Change) (new : Parts) → ((made : Change) → c ≡ Some made → made.0 ≡ o.answer → IsInline o.answer o.picked)
      → MatchOption r (Makes c o.answer new) (λ e. Refuses s e o.answer o.picked new) → IsInline o.answer o.picked
  told None c new f goes = f goes.made goes.is goes.answers
  told (Some e) c new f goes = (subst FitsInline (sym goes.answers) tt, subst (λ (ks : List ℕ). length ks ≤ 4) (sym goes.unpicked) (omega arith))

  pub inline_event : (event : Event) (new : Parts) → Goes (refusals limits s caller event) (change limits s caller event o.picked) s o.answer o.picked new → KeepsEvent event kept o → IsInline o.answer o.picked
  inline_event (CallOf pid call) new goes keeps = told _ _ new (λ made is same. told_call pid.0 call made is same keeps) goes
  inline_event Resume new goes keeps = keeps asked none
  inline_event (Tick k) new goes keeps = told _ _ new (λ made is same. told_plainly o.picked _ made o.answer is same tt) goes

-- it holds of each call where it holds at all, and of those on the tables anyway
kept_asked : (on : Option (Fd × ObjectCall)) (kept : Bool) (o : Outcome) → IsKept kept o → KeepsAsked on kept o
kept_asked None kept o h = tt
kept_asked (Some on) kept o h = h

pub any_call : (call : Call) (kept : Bool) (o : Outcome) → IsKept kept o → KeepsCall call kept o
any_call (EpollWait epfd most timeout) kept o h = h
any_call call kept o h = kept_asked (object_call None Nobody call) kept o h

pub table_call_kept : (call : Call) (kept : Bool) (o : Outcome) → IsTableCall call → KeepsCall call kept o
table_call_kept (EpollCtl epfd op fd mask tag) kept o h = absurd h
table_call_kept (EpollWait epfd most timeout) kept o h = absurd h
table_call_kept call kept o h = subst (λ (on : Option (Fd × ObjectCall)). KeepsAsked on kept o) (sym h) tt
