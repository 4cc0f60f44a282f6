-- A list that is one byte, over and over.
use Rattle.std.proofs.Common.{Bool, EachIndex, List, ap, false, length, replicate, refl, slice_index, subst, sym, true, ℕ, ◌==◌, ◌≡◌, ◌∙◌, ◌<◌}
use Rattle.std.specs.Cmp.Lexicographic.{pointwise}
use Rattle.std.proofs.lemmas.List.{ext_get_or, get_or-replicate, length-replicate}
use Rattle.std.proofs.lemmas.Slice.Eq.{bytes_eq-Decides}

pub one_byte : (xs : List ℕ) (n b : ℕ) → length xs ≡ n → EachIndex xs (λ k. slice_index xs k ≡ b) → xs ≡ replicate n b
one_byte xs n b l h =
    ext_get_or 0 xs (replicate n b) (l ∙ sym (length-replicate n b))
    (λ i lt. h i lt ∙ sym (get_or-replicate n i b 0 (subst (λ m. i < m) l lt)))

pub each_byte : (xs : List ℕ) (n b : ℕ) → xs ≡ replicate n b → EachIndex xs (λ k. slice_index xs k ≡ b)
each_byte xs n b e i lt = ap (λ ys. slice_index ys i) e ∙ get_or-replicate n i b 0 (subst (λ m. i < m) (ap length e ∙ length-replicate n b) lt)

-- a test that is true of this list only is what the comparison gives
pub tells_filled : (xs : List ℕ) (n b : ℕ) (r : Bool) → (r ≡ true → xs ≡ replicate n b) → (xs ≡ replicate n b → r ≡ true)
    → r ≡ pointwise ◌==◌ xs (replicate n b)
tells_filled xs n b true sound whole = sym ((bytes_eq-Decides xs (replicate n b)).1 (sound refl))
tells_filled xs n b false sound whole = other _ refl where
  other : (t : Bool) → t ≡ pointwise ◌==◌ xs (replicate n b) → false ≡ pointwise ◌==◌ xs (replicate n b)
  other false e = e
  other true e = whole ((bytes_eq-Decides xs (replicate n b)).0 (sym e)) ∙ e
