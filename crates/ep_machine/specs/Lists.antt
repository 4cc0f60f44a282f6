-- Words on lists.
use Rattle.std.specs.List.{list_any}
use Rattle.std.specs.Prelude.{Bool, List, None, Option, Some, [], false, not, suc, true, zero, ℕ, ◌&&◌, ◌+◌, ◌==◌, ◌∷◌}

abbrev pub is_empty : {X : Type 0} → List X → Bool
is_empty [] = true
is_empty (x ∷ xs) = false

abbrev pub is_among : List ℕ → ℕ → Bool
is_among ks k = list_any (λ x. k == x) ks

abbrev pub are_distinct : List ℕ → Bool
are_distinct [] = true
are_distinct (k ∷ ks) = not (is_among ks k) && are_distinct ks

-- what is there, each with its number
abbrev pub numbered : {X : Type 0} → ℕ → List (Option X) → List (ℕ × X)
numbered k [] = []
numbered k (None ∷ xs) = numbered (k + 1) xs
numbered k (Some x ∷ xs) = (k, x) ∷ numbered (k + 1) xs

-- x at place k, with empty places before it where the list is shorter
abbrev pub place_at : {X : Type 0} → List (Option X) → ℕ → X → List (Option X)
place_at [] zero x = Some x ∷ []
place_at [] (suc k) x = None ∷ place_at [] k x
place_at (y ∷ ys) zero x = Some x ∷ ys
place_at (y ∷ ys) (suc k) x = y ∷ place_at ys k x

abbrev pub lowest_free : {X : Type 0} → List (Option X) → ℕ
lowest_free [] = 0
lowest_free (None ∷ rest) = 0
lowest_free (Some x ∷ rest) = lowest_free rest + 1

-- x at the lowest free place
abbrev pub enter : {X : Type 0} → List (Option X) → X → List (Option X)
enter [] x = Some x ∷ []
enter (None ∷ rest) x = Some x ∷ rest
enter (Some y ∷ rest) x = Some y ∷ enter rest x
