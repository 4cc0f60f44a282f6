-- What a call on the tables raises, at each description: what it lost.
use Rattle.std.proofs.Common.{◌≡◌, Bool, [], None, Option, Some, ap, refl, subst, sym, unwrap_or, ℕ, ◌∙◌}
use Rattle.std.specs.Prelude.{MatchOption}
use Rattle.ep_base.specs.Limits.{Limits}
use Rattle.ep_base.specs.declared.answer.Answer.{Answer}
use Rattle.ep_base.specs.declared.call.Call.{Call}
use Rattle.ep_base.specs.declared.call.Call.TheVariants.{EpollCtl, EpollWait}
use Rattle.ep_base.specs.declared.errno.Errno.{Errno}
use Rattle.ep_machine.specs.Effect.{first}
use Rattle.ep_machine.specs.Files.{Files}
use Rattle.ep_machine.specs.FilesCalls.{FilesCall, files_call}
use Rattle.ep_machine.specs.Spread.{raised_of}
use Rattle.ep_machine.specs.State.{Change, State}
use Rattle.ep_machine.specs.Step.{files_change}
use Rattle.ep_calls.specs.Raising.{AsRaised, AsRaisedIn, IsRaising, Raises, raised_bits}
use Rattle.ep_calls.specs.TableCall.{IsTableCall, raised_by}
use Rattle.ep_calls.specs.declared.raising.Raising.{Raising}
use Rattle.ep_calls.specs.declared.raising.Raising.TheVariants.{Losses}
use Rattle.ep_table.specs.Value.{Does, IsTold, Refuses, Seen, Succeeds}

-- what isn't refused is answered with no refusal
pub never_refused : (limits : Limits) (f : Files) (p : ℕ) (busy : Bool) (call : Call) → IsTableCall call → raised_by (files_call limits f p busy call).answer ≡ Losses
never_refused limits f p busy (EpollCtl epfd op fd mask tag) is = absurd is
never_refused limits f p busy (EpollWait epfd most timeout) is = absurd is
never_refused limits f p busy call is = refl

made_is : (c made : Change) → Some c ≡ Some made → c ≡ made
made_is c made h = ap (λ (o : Option Change). unwrap_or o c) h

module _ (call : FilesCall) (real : raised_by call.answer ≡ Losses) (answer : Answer) (v new : Seen) (does : Does call answer v new) (told : IsTold call new) where
  does_at : (o : Option Errno) → first call.refusals ≡ o → MatchOption o (Succeeds call answer v new) (λ e. Refuses e answer v new)
  does_at o h = subst (λ (x : Option Errno). MatchOption x (Succeeds call answer v new) (λ e. Refuses e answer v new)) h does

  at_losses : first call.refusals ≡ None → raised_by answer ≡ Losses
  at_losses h = ap raised_by (does_at None h).answers ∙ real

  pub table_raising : IsRaising (raised_by answer) new
  table_raising = by (first call.refusals) refl where
    by : (o : Option Errno) → first call.refusals ≡ o → IsRaising (raised_by answer) new
    by None h = subst (λ (r : Raising). IsRaising r new) (sym (at_losses h)) ((told h).live, (told h).instances)
    by (Some e) h = subst (λ (a : Answer). IsRaising (raised_by a) new) (sym (does_at (Some e) h).answers) tt

  pub table_raises : (s : State) (now : ℕ) → Raises call.refusals (Some (files_change s call)) (raised_by answer) new now
  table_raises s now = by (first call.refusals) refl where
    change : Change
    change = files_change s call

    by : (o : Option Errno) → first call.refusals ≡ o
        → MatchOption o ((made : Change) → Some change ≡ Some made → AsRaisedIn made.1.files (raised_by answer) new now made.2) (λ e. AsRaised (raised_by answer) new now [])
    by None h = λ made is d watched.
        subst (λ (m : Change). raised_of m.2 d ≡ raised_bits (raised_by answer) new now d) (made_is change made is)
        ((told h).bits d ∙ ap (λ (r : Raising). raised_bits r new now d) (sym (at_losses h)))
    by (Some e) h = λ d. ap (λ (a : Answer). raised_bits (raised_by a) new now d) (sym (does_at (Some e) h).answers)
