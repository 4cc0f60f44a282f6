-- A history read from its lines.
use Rattle.std.specs.Prelude.{All, List, None, Some, length, map, ℕ, ◌+◌, ◌++◌, ◌<◌, ◌≡◌, ◌≤◌, ◌∷◌}
use Rattle.ep_base.specs.declared.record.Record.{Record}
use Rattle.ep_history.specs.Records.{line_record}

-- the most bytes of a record's line
abbrev pub longest_record : ℕ
longest_record = 56000000

-- a record's line may be so long
abbrev pub FitsRecord : List ℕ → Type 0
FitsRecord line = length line ≤ longest_record

-- each line is the record at its place, and there are as many
abbrev pub AreLinesOf : List Record → List (List ℕ) → Type 0
AreLinesOf records lines = map line_record lines ≡ map (λ r. Some r) records

-- P holds of the line of this number, counted from 1, and each line before it is a record and not too long
pub record IsFirst (P : List ℕ → Type 0) (number : ℕ) (lines : List (List ℕ)) : Type 0 where
  pub before : List (List ℕ)
  pub line : List ℕ
  pub behind : List (List ℕ)
  pub records : List Record
  pub cut : lines ≡ before ++ line ∷ behind
  pub number_is : number ≡ length before + 1
  pub of_lines : AreLinesOf records before
  pub fit : All FitsRecord before
  pub holds : P line

abbrev pub IsNoRecord : List ℕ → Type 0
IsNoRecord line = FitsRecord line × (line_record line ≡ None)

abbrev pub IsTooLongForOne : List ℕ → Type 0
IsTooLongForOne line = longest_record < length line

-- the line of this number is the first that is no record
abbrev pub IsFirstBad : ℕ → List (List ℕ) → Type 0
IsFirstBad = IsFirst IsNoRecord

-- the line of this number is the first that is too long
abbrev pub IsFirstLong : ℕ → List (List ℕ) → Type 0
IsFirstLong = IsFirst IsTooLongForOne
