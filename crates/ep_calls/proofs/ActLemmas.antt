-- One event over the parts.
use Rattle.std.proofs.Common.{◌≡◌, ◌∙◌, ◌+◌, ℕ, Bool, List, [], ◌∷◌, None, Option, Some, true, false, ap, is_none, is_some, nat_lt, refl, subst, sym}
use Rattle.std.specs.Prelude.{MatchOption}
use Rattle.std.specs.List.{list_any}
use Rattle.ep_facts.proofs.OptionFacts.{some_not_none}
use Rattle.ep_base.specs.declared.answer.Answer.TheVariants.{Done, Refused}
use Rattle.ep_base.specs.declared.call.Call.{Call}
use Rattle.ep_base.specs.declared.call.Event.{Event}
use Rattle.ep_base.specs.declared.call.Event.TheVariants.{Call as CallOf, Tick}
use Rattle.ep_base.specs.declared.errno.Errno.{Errno}
use Rattle.ep_base.specs.declared.errno.Errno.TheVariants.{Ebusy, Einval, Esrch}
use Rattle.ep_base.specs.declared.ids.Pid.{Pid}
use Rattle.ep_machine.specs.Effect.{first}
use Rattle.ep_machine.specs.Files.{Files, table_of}
use Rattle.ep_machine.specs.Refusal.{call_refusals, refusals}
use Rattle.ep_machine.specs.State.{Change, State}
use Rattle.ep_machine.specs.Step.{change}
use Rattle.ep_machine.specs.Waits.{is_parked, tick}
use Rattle.ep_machine.specs.Report.{plainly}
use Rattle.ep_machine.specs.Timer.{last_moment}
use Rattle.ep_calls.proofs.TickLemmas.{tick_raises}
use Rattle.ep_park.specs.Waiters.{is_caller}
use Rattle.ep_calls.specs.Does.{Does, DoesCall, DoesCallIf, DoesEvent, DoesEventIf}
use Rattle.ep_calls.specs.Parts.{Parts}
use Rattle.ep_calls.specs.declared.outcome.Outcome.{Outcome}
use Rattle.ep_calls.specs.Clock.{Sets, Ticks}
use Rattle.ep_calls.specs.Moves.{Goes, MovesBy, MovesIf, Makes, RaisesEvent, Refuses, StandFor}
use Rattle.ep_calls.specs.Raising.{IsRaising}
use Rattle.ep_calls.specs.declared.raising.Raising.{Raising}
use Rattle.ep_calls.specs.declared.raising.Raising.TheVariants.{Nowhere}
use Rattle.ep_calls.proofs.OutcomeLemmas.{goes_past, goes_refused, goes_told, raises_past, raises_refused, second_holds}
use Rattle.ep_calls.proofs.RegistrationLemmas.{caller_waits}

-- what holds of each state need not be asked
pub does_all : (Also : State → Type 0) (n : ℕ) (tests : State → List (Bool × Errno)) (changed : State → List ℕ → Option Change) (outcome : Outcome) (old new : Parts)
    → Does (MovesIf Also n old) tests changed outcome old new → MovesBy n old Also → Does (MovesBy n old) tests changed outcome old new
does_all Also n tests changed outcome old new does also = record {
  moves = λ s at sound quiet legal stands. does.moves s at sound quiet legal stands (also s at sound quiet legal stands);
  raises = λ s at sound quiet legal stands. does.raises s at sound quiet legal stands (also s at sound quiet legal stands);
  raising = does.raising;
  limits = does.limits;
  keys = does.keys;
}

-- a refusal leaves the parts
pub refused_does : (p : Parts) (n caller : ℕ) (event : Event) (e : Errno) (outcome : Outcome) → ((s : State) → StandFor p s → first (refusals p.tables.limits s caller event) ≡ Some e)
    → outcome.answer ≡ Refused e → outcome.picked ≡ [] → outcome.raising ≡ Nowhere → DoesEvent n caller event outcome p p
refused_does p n caller event e outcome first_is answer picked raising =
    let limits = p.tables.limits in
    record {
      moves = λ s at sound quiet legal stands.
          goes_told (refusals limits s caller event) (change limits s caller event) s outcome.answer (Refused e) outcome.picked p answer picked
          (goes_refused (refusals limits s caller event) (change limits s caller event []) s p e (first_is s stands) stands);
      raises = λ s at sound quiet legal stands. raises_refused (refusals limits s caller event) (change limits s caller event outcome.picked) p.tables p.clock e outcome.raising (first_is s stands) raising;
      raising = subst (λ (r : Raising). IsRaising r p.tables) (sym raising) tt;
      limits = refl;
      keys = λ key d h. h;
    }

module _ (p : Parts) (caller : ℕ) (pid : Pid) (call : Call) (there : is_some (table_of p.tables.files pid.0) ≡ true) where
  lives : (s : State) → StandFor p s → is_none (table_of s.files pid.0) ≡ false
  lives s stands = some_not_none (table_of s.files pid.0) (ap (λ (f : Files). is_some (table_of f pid.0)) stands.files ∙ there)

  pub busy : list_any (is_caller caller) p.parked ≡ true → (s : State) → StandFor p s → first (refusals p.tables.limits s caller (CallOf pid call)) ≡ Some Ebusy
  busy parked s stands =
      second_holds (is_none (table_of s.files pid.0)) (is_parked s caller) Esrch Ebusy (call_refusals p.tables.limits s pid.0 call) (lives s stands) (caller_waits p.tables p.interest p.parked p.clock s caller stands ∙ parked)

  -- past the two tests of the caller it is the call
  pub past_does_if : (Also : State → Type 0) (n : ℕ) (new : Parts) (outcome : Outcome) → list_any (is_caller caller) p.parked ≡ false → DoesCallIf Also n caller pid.0 call outcome p new → DoesEventIf Also n caller (CallOf pid call) outcome p new
  past_does_if Also n new outcome free does =
      let limits = p.tables.limits in
      record {
        moves = λ s at sound quiet legal stands also.
            goes_past (is_none (table_of s.files pid.0)) (is_parked s caller) Esrch Ebusy (call_refusals limits s pid.0 call) (change limits s caller (CallOf pid call) outcome.picked) s outcome.answer outcome.picked new
            (lives s stands) (caller_waits p.tables p.interest p.parked p.clock s caller stands ∙ free) (does.moves s at sound quiet legal stands also);
        raises = λ s at sound quiet legal stands also.
            raises_past (is_none (table_of s.files pid.0)) (is_parked s caller) Esrch Ebusy (call_refusals limits s pid.0 call) (change limits s caller (CallOf pid call) outcome.picked) new.tables new.clock outcome.raising
            (lives s stands) (caller_waits p.tables p.interest p.parked p.clock s caller stands ∙ free) (does.raises s at sound quiet legal stands also);
        raising = does.raising;
        limits = does.limits;
        keys = does.keys;
      }

  pub past_does : (n : ℕ) (new : Parts) (outcome : Outcome) → list_any (is_caller caller) p.parked ≡ false → DoesCall n caller pid.0 call outcome p new → DoesEvent n caller (CallOf pid call) outcome p new
  past_does n new outcome free does =
      let limits = p.tables.limits in
      record {
        moves = λ s at sound quiet legal stands.
            goes_past (is_none (table_of s.files pid.0)) (is_parked s caller) Esrch Ebusy (call_refusals limits s pid.0 call) (change limits s caller (CallOf pid call) outcome.picked) s outcome.answer outcome.picked new
            (lives s stands) (caller_waits p.tables p.interest p.parked p.clock s caller stands ∙ free) (does.moves s at sound quiet legal stands);
        raises = λ s at sound quiet legal stands.
            raises_past (is_none (table_of s.files pid.0)) (is_parked s caller) Esrch Ebusy (call_refusals limits s pid.0 call) (change limits s caller (CallOf pid call) outcome.picked) new.tables new.clock outcome.raising
            (lives s stands) (caller_waits p.tables p.interest p.parked p.clock s caller stands ∙ free) (does.raises s at sound quiet legal stands);
        raising = does.raising;
        limits = does.limits;
        keys = does.keys;
      }

-- the clock going on
module _ (p : Parts) (n caller k : ℕ) (outcome : Outcome) (clock : ℕ) (none : outcome.picked ≡ []) where
  abbrev Told : Option Errno → State → Type 0
  Told o s = MatchOption o (Makes (plainly [] (tick s k)) outcome.answer (record p { clock = clock })) (λ e. Refuses s e outcome.answer [] (record p { clock = clock }))

  goes_by : (o : Option Errno) (s : State) → StandFor p s → MatchOption o ((outcome.answer ≡ Done) × (clock ≡ p.clock + k)) (λ e. (outcome.answer ≡ Refused e) × (clock ≡ p.clock)) → Told o s
  goes_by None s stands t = record {
    made = tick s k;
    is = refl;
    answers = sym t.0;
    stands = record { now = ap (λ (m : ℕ). m + k) stands.now ∙ sym t.1; files = stands.files; watches = stands.watches; added = stands.added; waiters = stands.waiters };
  }
  goes_by (Some e) s stands t = record {
    answers = t.0;
    unpicked = refl;
    stands = record { now = stands.now ∙ sym t.1; files = stands.files; watches = stands.watches; added = stands.added; waiters = stands.waiters };
  }

  pub tick_does_at : Ticks p.clock k clock outcome.answer → Sets p.clock k outcome.raising → IsRaising outcome.raising p.tables → DoesEvent n caller (Tick k) outcome p (record p { clock = clock })
  tick_does_at ticks sets is =
      let limits = p.tables.limits in
      let new : Parts = record p { clock = clock } in
      record {
        moves = λ s at sound quiet legal stands.
            let P : List ℕ → Type 0 = λ ks. Goes (refusals limits s caller (Tick k)) (change limits s caller (Tick k) ks) s outcome.answer ks new in
            subst P (sym none) (subst (λ (m : ℕ). Told (first ((nat_lt last_moment (m + k), Einval) ∷ [])) s) (sym stands.now) (goes_by (first ((nat_lt last_moment (p.clock + k), Einval) ∷ [])) s stands ticks));
        raises =
            let P : List ℕ → Type 0 = λ ks. RaisesEvent limits n caller (Tick k) ks outcome.raising p p.tables clock in
            subst P (sym none) (tick_raises limits n caller k outcome.answer outcome.raising p new refl ticks sets);
        raising = is;
        limits = refl;
        keys = λ key d h. h;
      }

pub tick_does : (p : Parts) (n caller k : ℕ) (outcome : Outcome) (clock : ℕ) → Ticks p.clock k clock outcome.answer → Sets p.clock k outcome.raising → outcome.picked ≡ [] → IsRaising outcome.raising p.tables
    → DoesEvent n caller (Tick k) outcome p (record p { clock = clock })
tick_does p n caller k outcome clock ticks sets none is = tick_does_at p n caller k outcome clock none ticks sets is
