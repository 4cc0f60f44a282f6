-- The first moment that has an effect.
use Rattle.std.proofs.Common.{◌≡◌, ◌∙◌, ◌+◌, ◌-◌, ◌<◌, ◌≤◌, ◌&&◌, ◌||◌, ℕ, Bool, true, false, not, List, [], ◌∷◌, None, Option, Some, ap, arith, map, nat_le, nat_lt, refl, subst, sym, unwrap_or}
use Rattle.std.specs.Prelude.{◌↔◌, IfSome, IsSome}
use Rattle.std.proofs.Math.Nat.{add-zero, lt_of_not-le}
use Rattle.std.proofs.lemmas.Bool.{false≢true}
use Rattle.std.specs.List.{list_any}
use Rattle.std.proofs.lemmas.Bool.Decides.{nat_tests}
use Rattle.ep_machine.specs.Files.{Files, Place, live, object_at}
use Rattle.ep_machine.specs.Marks.{first_marked as first_of_each}
use Rattle.ep_machine.specs.Objects.{Object, advance, plain}
use Rattle.ep_machine.specs.State.{State, Waiter}
use Rattle.ep_machine.specs.Timer.{last_moment}
use Rattle.ep_machine.specs.Waits.{advance_at, is_due, is_marked_at, marked_if_due, waits_at}
use Rattle.ep_object.proofs.TimerLemmas.{still_raises_nothing}
use Rattle.ep_view.proofs.WaiterLemmas.{any_at}
use Rattle.ep_view.specs.AtRest.{AtRest, needs_mark}
use Rattle.ep_calls.specs.Arrivals.{arrives_by}
use Rattle.ep_calls.specs.Driver.{HasNoEffect, IsNextEffect, TellsNext, has_effect, tick_marks, tick_raises}
use Rattle.ep_calls.specs.Moves.{StandFor}
use Rattle.ep_calls.specs.Parts.{Parts}
use Rattle.ep_calls.specs.Raising.{clock_bits}
use Rattle.ep_calls.specs.Stands.{number_at}
use Rattle.ep_park.specs.Deadlines.{awaits_mark}

-- A tick's effect by the parts.
raised_each : (s : State) (now : ℕ) (xs : List (ℕ × Place)) → list_any (λ x. nat_lt 0 x.1) (map (advance_at s now) xs) ≡ list_any (λ x. nat_lt 0 (clock_bits s.files s.now now (Some x.1))) xs
raised_each s now [] = refl
raised_each s now (x ∷ xs) = ap (λ (b : Bool). nat_lt 0 (clock_bits s.files s.now now (Some x.1)) || b) (raised_each s now xs)

pub effect_of : (p : Parts) (s : State) (k : ℕ) → StandFor p s → has_effect s k ≡ (arrives_by p.tables.files p.clock (p.clock + k) || list_any (awaits_mark (p.clock + k)) p.parked)
effect_of p s k stands = λ i. raises i || marks i
  where
    raises : tick_raises s k ≡ arrives_by p.tables.files p.clock (p.clock + k)
    raises = raised_each s (s.now + k) (live s.files) ∙ λ i. arrives_by (stands.files i) (stands.now i) (stands.now i + k)

    marks : tick_marks s k ≡ list_any (awaits_mark (p.clock + k)) p.parked
    marks =
        (λ i. list_any (awaits_mark (stands.now i + k)) (stands.waiters i))
        ∙ any_at (λ d. number_at p.tables.keys (record { 0 = d })) (awaits_mark (p.clock + k)) (awaits_mark (p.clock + k)) (λ w. refl) p.parked

-- No tick of 0 has an effect at rest.
module _ (since : ℕ) where
  no_advance : (x : Object) → nat_lt 0 (advance x since since) ≡ false
  no_advance x = ap (nat_lt 0) (still_raises_nothing x since)

  none_raised : (files : Files) (xs : List (ℕ × Place)) → list_any (λ x. nat_lt 0 (clock_bits files since since (Some x.1))) xs ≡ false
  none_raised files [] = refl
  none_raised files (x ∷ xs) = ap (λ (b : Bool). b || list_any (λ y. nat_lt 0 (clock_bits files since since (Some y.1))) xs) (no_advance (unwrap_or (object_at files (Some x.1)) plain)) ∙ none_raised files xs

module _ (ready : ℕ → Bool) (now : ℕ) (all : List Waiter) where
  unawaited : (m d other : Bool) → (not (m || d || other) && d) ≡ false
  unawaited true d other = refl
  unawaited false true other = refl
  unawaited false false other = by other
    where
      by : (b : Bool) → (not b && false) ≡ false
      by true = refl
      by false = refl

  none_awaits : (before ws : List Waiter) → list_any (awaits_mark now) (first_of_each ready all before (map (marked_if_due now) ws)) ≡ false
  none_awaits before [] = refl
  none_awaits before (w ∷ ws) =
      let due = marked_if_due now w in
      ap (λ (b : Bool). b || list_any (awaits_mark now) (first_of_each ready all (due ∷ before) (map (marked_if_due now) ws)))
      (unawaited w.marked (is_due now w.deadline) (not (waits_at before w.instance) && not (is_marked_at all w.instance) && ready w.instance))
      ∙ none_awaits (due ∷ before) ws

no_effect_now : (s : State) → AtRest s → has_effect s 0 ≡ false
no_effect_now s rest = λ i. raises i || marks i
  where
    raises : tick_raises s 0 ≡ false
    raises = raised_each s (s.now + 0) (live s.files) ∙ (ap (λ (n : ℕ). arrives_by s.files s.now n) (add-zero s.now) ∙ none_raised s.now s.files (live s.files))

    marks : tick_marks s 0 ≡ false
    marks =
        let ready = needs_mark s in
        let due = map (marked_if_due s.now) s.waiters in
        (λ i. list_any (awaits_mark (add-zero s.now i)) (sym rest.marks i)) ∙ none_awaits ready s.now due [] s.waiters

-- What the earliest moment tells.
module _ (s : State) (first : Option ℕ) (told : (k : ℕ) → has_effect s k ≡ is_due (s.now + k) first) where
  pub no_effect : first ≡ None → HasNoEffect s
  no_effect none = λ k by_last. told k ∙ ap (is_due (s.now + k)) none

  not_reached : (n moment : ℕ) → n < moment → nat_le moment n ≡ false
  not_reached n moment lt = grind (arith, nat_tests, lt)

  reached : (n moment : ℕ) → moment ≤ n → nat_le moment n ≡ true
  reached n moment le = grind (arith, nat_tests, le)

  pub effect_too_late : (moment : ℕ) → first ≡ Some moment → last_moment < moment → HasNoEffect s
  effect_too_late moment is late = λ k by_last. told k ∙ (ap (is_due (s.now + k)) is ∙ not_reached (s.now + k) moment (omega (arith, by_last, late)))

  not_yet : (n moment : ℕ) → nat_le moment (n + 0) ≡ false → n < moment
  not_yet n moment h = grind (arith, nat_tests, h)

  pub next_effect : (moment : ℕ) → AtRest s → first ≡ Some moment → moment ≤ last_moment → IsNextEffect s moment
  next_effect moment rest is comes =
      let later : s.now < moment = not_yet s.now moment (sym (told 0 ∙ ap (is_due (s.now + 0)) is) ∙ no_effect_now s rest) in
      record {
        later = later;
        comes = comes;
        effect = told (moment - s.now) ∙ (ap (is_due (s.now + (moment - s.now))) is ∙ reached (s.now + (moment - s.now)) moment (omega (arith, later)));
        first = λ k sooner. told k ∙ (ap (is_due (s.now + k)) is ∙ not_reached (s.now + k) moment sooner);
      }

  -- of moments past the last one there is none
  pub next_moment : (moment : ℕ) (o : Option ℕ) → AtRest s → first ≡ Some moment → (IsSome o ↔ (moment ≤ last_moment)) → IfSome o (λ m. m ≡ moment) → TellsNext s o
  next_moment moment None rest is there at = effect_too_late moment is (lt_of_not-le (λ le. false≢true (there.1 le)))
  next_moment moment (Some m) rest is there at = subst (λ (k : ℕ). IsNextEffect s k) (sym at) (next_effect moment rest is (there.0 refl))

-- what the parts tell of each tick
pub told_by : (p : Parts) (s : State) (arrival deadline first : Option ℕ) → StandFor p s → ((now : ℕ) → is_due now arrival ≡ arrives_by p.tables.files p.clock now)
    → ((now : ℕ) → is_due now deadline ≡ list_any (awaits_mark now) p.parked) → ((now : ℕ) → is_due now first ≡ (is_due now arrival || is_due now deadline))
    → (k : ℕ) → has_effect s k ≡ is_due (s.now + k) first
told_by p s arrival deadline first stands a d f k =
    effect_of p s k stands
    ∙ ((λ i. sym (a (p.clock + k)) i || sym (d (p.clock + k)) i) ∙ (sym (f (p.clock + k)) ∙ ap (λ (n : ℕ). is_due (n + k) first) (sym stands.now)))
