-- The schedule of an order: who went.
use Rattle.std.specs.Prelude.{Bool, List, None, Option, Some, [], codes, decimal, false, if◌then◌else◌, slice_get, true, ℕ, suc, zero, ◌+◌, ◌++◌, ◌==◌, ◌∷◌}
use Rattle.ep_orders.specs.declared.scenario.Line.{Line}
use Rattle.ep_scenario.specs.declared.step.Step.{Step}
use Rattle.ep_scenario.specs.declared.step.Step.TheVariants as step

-- the number of the line whose caller goes, unless the clock does
abbrev pub goer : Step → Option ℕ
goer (step.Event number) = Some number
goer (step.Resume number) = Some number
goer (step.Tick span) = None

abbrev pub is_same : Option ℕ → Option ℕ → Bool
is_same (Some x) (Some y) = x == y
is_same (Some x) None = false
is_same None (Some y) = false
is_same None None = true

-- how many in a row, from the first on, are the same one's as this step
abbrev pub row_of : Step → List Step → ℕ
row_of s [] = 0
row_of s (t ∷ ts) = if is_same (goer s) (goer t) then row_of s ts + 1 else 0

abbrev pub caller_name : Option Line → List ℕ
caller_name None = []
caller_name (Some line) = codes "c" ++ decimal line.caller.0

abbrev pub name_in : List Line → Option ℕ → List ℕ
name_in lines None = codes "+"
name_in lines (Some number) = caller_name (slice_get lines number)

abbrev pub name_of : List Line → Step → List ℕ
name_of lines s = name_in lines (goer s)

abbrev pub times : ℕ → List ℕ
times count = if count == 1 then [] else codes "*" ++ decimal count

-- so many of the same one's in a row; a space is before each block but the first
abbrev pub block : List Line → Bool → Step → ℕ → List ℕ
block lines is_first s count = (if is_first then [] else codes " ") ++ (name_of lines s ++ times count)

-- so many more steps of the last block are still to come
abbrev pub blocks : List Line → Bool → List Step → ℕ → List ℕ
blocks lines is_first [] left = []
blocks lines is_first (s ∷ ss) zero = block lines is_first s (row_of s ss + 1) ++ blocks lines false ss (row_of s ss)
blocks lines is_first (s ∷ ss) (suc left) = blocks lines is_first ss left

abbrev pub schedule : List Line → List Step → List ℕ
schedule lines steps = blocks lines true steps 0
