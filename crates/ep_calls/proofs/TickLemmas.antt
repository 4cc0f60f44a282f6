-- What the clock going on raises.
use Rattle.std.proofs.Common.{◌≡◌, ◌∙◌, ◌+◌, ℕ, true, List, [], ◌∷◌, None, Option, Some, ap, filter, map, nat_lt, refl, subst, sym, unwrap_or}
use Rattle.std.specs.Prelude.{MatchOption}
use Rattle.ep_base.specs.Limits.{Limits}
use Rattle.ep_base.specs.declared.answer.Answer.{Answer}
use Rattle.ep_base.specs.declared.answer.Answer.TheVariants.{Done, Refused}
use Rattle.ep_base.specs.declared.call.Event.TheVariants.{Tick}
use Rattle.ep_base.specs.declared.errno.Errno.{Errno}
use Rattle.ep_base.specs.declared.errno.Errno.TheVariants.{Einval}
use Rattle.ep_machine.specs.Effect.{first}
use Rattle.ep_machine.specs.Files.{Files, Place, live, object_at, place_of}
use Rattle.ep_machine.specs.Objects.{advance, plain}
use Rattle.ep_machine.specs.Report.{plainly}
use Rattle.ep_machine.specs.Spread.{raised_of}
use Rattle.ep_machine.specs.State.{Change, State}
use Rattle.ep_machine.specs.Timer.{last_moment}
use Rattle.ep_machine.specs.Waits.{tick}
use Rattle.ep_facts.proofs.RaisedFacts.{raised_live, raised_place}
use Rattle.ep_calls.specs.Clock.{Sets, Ticks}
use Rattle.ep_calls.specs.Moves.{RaisesEvent, StandFor}
use Rattle.ep_calls.specs.Parts.{Parts}
use Rattle.ep_calls.specs.Raising.{AsRaised, AsRaisedIn, clock_bits, raised_bits}
use Rattle.ep_calls.specs.declared.raising.Raising.{Raising}
use Rattle.ep_calls.specs.declared.raising.Raising.TheVariants.{Clock, Nowhere}

every : (xs : List (ℕ × Place)) → filter (λ x. true) xs ≡ xs
every [] = refl
every (x ∷ xs) = ap (λ (ys : List (ℕ × Place)). x ∷ ys) (every xs)

abbrev bits_at : Files → ℕ → ℕ → Place → ℕ
bits_at f since now p = advance (unwrap_or (object_at f (Some p)) plain) since now

by_place : (f : Files) (since now : ℕ) (o : Option Place) → raised_place (λ p. true) (bits_at f since now) o ≡ clock_bits f since now o
by_place f since now None = refl
by_place f since now (Some p) = refl

abbrev raises_due : Files → ℕ → ℕ → List (ℕ × ℕ)
raises_due f since now = map (λ x. (x.0, bits_at f since now x.1)) (live f)

due_at : (f : Files) (since now d : ℕ) → raised_of (raises_due f since now) d ≡ clock_bits f since now (place_of f d)
due_at f since now d =
    ap (λ (xs : List (ℕ × Place)). raised_of (map (λ x. (x.0, bits_at f since now x.1)) xs) d) (sym (every (live f)))
    ∙ (raised_live (λ p. true) (bits_at f since now) f d ∙ by_place f since now (place_of f d))

abbrev Told : ℕ → Parts → ℕ → Raising → State → Type 0
Told now p then raising s =
    MatchOption (first ((nat_lt last_moment (now + then), Einval) ∷ [])) ((made : Change) → plainly [] (tick s then) ≡ Some made → AsRaisedIn made.1.files raising p.tables p.clock made.2) (λ e. AsRaised raising p.tables p.clock [])

module _ (limits : Limits) (n caller k : ℕ) (answer : Answer) (raising : Raising) (old new : Parts) (same : new.tables ≡ old.tables) where
  by_cases : (o : Option Errno) (s : State) → StandFor old s → MatchOption o ((answer ≡ Done) × (new.clock ≡ old.clock + k)) (λ e. (answer ≡ Refused e) × (new.clock ≡ old.clock))
      → MatchOption o (raising ≡ Clock old.clock) (λ e. raising ≡ Nowhere)
      → MatchOption o ((made : Change) → plainly [] (tick s k) ≡ Some made → AsRaisedIn made.1.files raising new.tables new.clock made.2) (λ e. AsRaised raising new.tables new.clock [])
  by_cases None s stands t h = λ made e d watched.
      ap (λ (o : Option Change). raised_of (unwrap_or o made).2 d) (sym e)
      ∙ ((λ i. raised_of (raises_due (stands.files i) (stands.now i) (stands.now i + k)) d)
      ∙ (due_at old.tables.files old.clock (old.clock + k) d
      ∙ (λ i. raised_bits (sym h i) (sym same i) (sym t.1 i) d)))
  by_cases (Some e) s stands t h = λ d. ap (λ (r : Raising). raised_bits r new.tables new.clock d) (sym h)

  pub tick_raises : Ticks old.clock k new.clock answer → Sets old.clock k raising → RaisesEvent limits n caller (Tick k) [] raising old new.tables new.clock
  tick_raises t h = λ s at sound quiet legal stands.
      subst (λ (m : ℕ). Told m new k raising s) (sym stands.now) (by_cases (first ((nat_lt last_moment (old.clock + k), Einval) ∷ [])) s stands t h)
