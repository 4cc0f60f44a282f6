-- A text is cut into lines. A line ends at byte 10, which is no part of it, and the last may lack it.
use Rattle.std.specs.Prelude.{List, [], if◌then◌else◌, ℕ, ◌==◌, ◌∷◌}

abbrev pub onto_first : ℕ → List (List ℕ) → List (List ℕ)
onto_first x [] = (x ∷ []) ∷ []
onto_first x (l ∷ ls) = (x ∷ l) ∷ ls

abbrev pub lines_of : List ℕ → List (List ℕ)
lines_of [] = []
lines_of (x ∷ xs) = if x == 10 then [] ∷ lines_of xs else onto_first x (lines_of xs)
