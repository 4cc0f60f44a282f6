-- The first line of a text.
use Rattle.std.proofs.Common.{◌∙◌, List, [], ap, arith, drop, get_or, length, refl, suc, take, zero, ℕ, ◌<◌, ◌≡◌, ◌≢◌, ◌∷◌}
use Rattle.std.proofs.lemmas.Bool.{ne_eqb}
use Rattle.ep_scenario.specs.Lines.{lines_of, onto_first}

other : (x : ℕ) (xs : List ℕ) → x ≢ 10 → lines_of (x ∷ xs) ≡ onto_first x (lines_of xs)
other x xs h = rw (ne_eqb x 10 h) refl

-- at the first byte 10
pub cut_at : (xs : List ℕ) (n : ℕ) → n < length xs → get_or xs n 0 ≡ 10 → ((k : ℕ) → k < n → get_or xs k 0 ≢ 10)
    → lines_of xs ≡ take n xs ∷ lines_of (drop (suc n) xs)
cut_at [] n within is before = absurd (omega (arith, within))
cut_at (x ∷ xs) zero within is before = rw is refl
cut_at (x ∷ xs) (suc n) within is before =
    other x xs (before 0 (omega arith)) ∙ ap (onto_first x) (cut_at xs n (omega (arith, within)) is (λ k less. before (suc k) (omega (arith, less))))

whole : (x : ℕ) (xs : List ℕ) → ((k : ℕ) → k < length (x ∷ xs) → get_or (x ∷ xs) k 0 ≢ 10) → lines_of (x ∷ xs) ≡ (x ∷ xs) ∷ []
whole x [] none = other x [] (none 0 (omega arith))
whole x (y ∷ ys) none = other x (y ∷ ys) (none 0 (omega arith)) ∙ ap (onto_first x) (whole y ys (λ k less. none (suc k) (omega (arith, less))))

-- there is no byte 10
pub cut_none : (xs : List ℕ) → 0 < length xs → ((k : ℕ) → k < length xs → get_or xs k 0 ≢ 10) → lines_of xs ≡ xs ∷ []
cut_none [] some none = absurd (omega (arith, some))
cut_none (x ∷ xs) some none = whole x xs none
