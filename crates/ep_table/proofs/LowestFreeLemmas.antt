-- The lowest free number.
use Rattle.std.proofs.Common.{None, Option, Some, [], add-one, ap, arith, drop, length, refl, slice_set, suc, zero, List, ℕ, ◌+◌, ◌<◌, ◌≡◌, ◌≤◌, ◌∷◌, ◌++◌}
use Rattle.ep_machine.specs.Lists.{enter, lowest_free}

pub lowest_within : {X : Type 0} (xs : List (Option X)) → lowest_free xs ≤ length xs
lowest_within [] = omega arith
lowest_within (None ∷ xs) = omega arith
lowest_within (Some x ∷ xs) = omega (arith, lowest_within xs)

pub enter_set : {X : Type 0} (xs : List (Option X)) (x : X) → lowest_free xs < length xs → enter xs x ≡ slice_set xs (lowest_free xs) (Some x)
enter_set [] x h = absurd (omega arith)
enter_set (None ∷ xs) x h = refl
enter_set (Some y ∷ xs) x h = rw (add-one) (ap (λ r. Some y ∷ r) (enter_set xs x (omega arith)))

pub enter_end : {X : Type 0} (xs : List (Option X)) (x : X) → length xs ≤ lowest_free xs → enter xs x ≡ xs ++ Some x ∷ []
enter_end [] x h = refl
enter_end (None ∷ xs) x h = absurd (omega arith)
enter_end (Some y ∷ xs) x h = ap (λ r. Some y ∷ r) (enter_end xs x (omega arith))

pub low_enter : {X : Type 0} (xs : List (Option X)) (x : X) → lowest_free xs + 1 ≤ lowest_free (enter xs x)
low_enter [] x = omega arith
low_enter (None ∷ xs) x = omega arith
low_enter (Some y ∷ xs) x = omega (arith, low_enter xs x)

-- from a number below which none is free
pub lowest_from : {X : Type 0} (xs : List (Option X)) (i : ℕ) → i ≤ lowest_free xs → i + lowest_free (drop i xs) ≡ lowest_free xs
lowest_from xs zero h = omega arith
lowest_from [] (suc i) h = absurd (omega arith)
lowest_from (None ∷ xs) (suc i) h = absurd (omega arith)
lowest_from (Some x ∷ xs) (suc i) h = omega (arith, lowest_from xs i (omega arith))

-- from the number after the lowest free one
pub second_from : {X : Type 0} (xs : List (Option X)) (x : X) (i : ℕ) → i ≡ lowest_free xs + 1 → i + lowest_free (drop i xs) ≡ lowest_free (enter xs x)
second_from [] x zero h = absurd (omega arith)
second_from [] x (suc zero) h = omega arith
second_from [] x (suc (suc i)) h = absurd (omega arith)
second_from (y ∷ xs) x zero h = absurd (omega arith)
second_from (None ∷ xs) x (suc zero) h = omega arith
second_from (None ∷ xs) x (suc (suc i)) h = absurd (omega arith)
second_from (Some y ∷ xs) x (suc i) h = omega (arith, second_from xs x i (omega arith))

pub low_set : {X : Type 0} (xs : List (Option X)) (i m : ℕ) → m ≤ i → m ≤ lowest_free xs → m ≤ lowest_free (slice_set xs i None)
low_set [] i m a b = b
low_set (None ∷ xs) zero m a b = b
low_set (None ∷ xs) (suc i) m a b = b
low_set (Some y ∷ xs) zero m a b = omega arith
low_set (Some y ∷ xs) (suc i) zero a b = omega arith
low_set (Some y ∷ xs) (suc i) (suc m) a b = omega (arith, low_set xs i m (omega arith) (omega arith))
