-- A text is cut into lines. A line ends at byte 10, which is no part of it, and the last may lack it.
use Rattle.std.specs.Prelude.{List, [], if◌then◌else◌, length, ⊤, ℕ, ◌++◌, ◌==◌, ◌≢◌, ◌≤◌, ◌∷◌}

abbrev pub onto_first : ℕ → List (List ℕ) → List (List ℕ)
onto_first x [] = (x ∷ []) ∷ []
onto_first x (l ∷ ls) = (x ∷ l) ∷ ls

abbrev pub lines_of : List ℕ → List (List ℕ)
lines_of [] = []
lines_of (x ∷ xs) = if x == 10 then [] ∷ lines_of xs else onto_first x (lines_of xs)

-- ---- the other way

abbrev pub IsPlain : List ℕ → Type 0
IsPlain [] = ⊤
IsPlain (x ∷ xs) = (x ≢ 10) × IsPlain xs

abbrev pub AllPlain : List (List ℕ) → Type 0
AllPlain [] = ⊤
AllPlain (l ∷ ls) = IsPlain l × AllPlain ls

-- each line with the byte that ends it
abbrev pub joined : List (List ℕ) → List ℕ
joined [] = []
joined (l ∷ ls) = l ++ 10 ∷ joined ls

-- what lacks that byte is a line too, where there is any
abbrev pub last_line : List ℕ → List (List ℕ)
last_line [] = []
last_line (x ∷ xs) = (x ∷ xs) ∷ []

-- ---- limits

abbrev pub longest_line : ℕ
longest_line = 65536

abbrev pub most_lines : ℕ
most_lines = 100000

-- the most bytes that one read gives
abbrev pub most_read : ℕ
most_read = 65536

-- the most bytes of answers that wait to be written
abbrev pub most_gathered : ℕ
most_gathered = 65536

abbrev pub AllFit : List (List ℕ) → Type 0
AllFit [] = ⊤
AllFit (l ∷ ls) = (length l ≤ longest_line) × AllFit ls
