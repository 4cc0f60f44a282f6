-- A list of one value.
use Rattle.std.proofs.Common.{List, ap, arith, get_or, inl, inr, replicate, ℕ, ◌∙◌, ◌≡◌}
use Rattle.std.proofs.lemmas.Bool.{cases_lt}
use Rattle.std.proofs.lemmas.List.{get_or-replicate, get_or_past, length-replicate}

pub at_fill : {X : Type 0} (n : ℕ) (v : X) (xs : List X) → xs ≡ replicate n v → (k : ℕ) → get_or xs k v ≡ v
at_fill n v xs e k = ap (λ ys. get_or ys k v) e ∙ elim (cases_lt k n) [
  | inl inside ↦ get_or-replicate n k v v inside
  | inr past ↦ get_or_past (replicate n v) k v (omega (arith, length-replicate n v))
]
