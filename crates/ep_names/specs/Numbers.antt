-- The taken numbers of one space, the lowest that is given, and the blocks that are full.
use Rattle.std.specs.Map.{lookup}
use Rattle.std.specs.Option.{is_some}
use Rattle.std.specs.Prelude.{Bool, List, Option, false, min, nat_eq, slice_index_or, true, ℕ, ◌*◌, ◌+◌, ◌<◌, ◌≡◌, ◌≤◌}

-- who has a number
abbrev pub owner_at : List (ℕ × ℕ) → ℕ → Option ℕ
owner_at numbers k = lookup (nat_eq k) numbers

abbrev pub is_taken : List (ℕ × ℕ) → ℕ → Bool
is_taken numbers k = is_some (owner_at numbers k)

-- each number from one on that is below another is taken
abbrev pub AreTaken : (ℕ → Bool) → ℕ → ℕ → Type 0
AreTaken taken from end = (k : ℕ) → from ≤ k → k < end → taken k ≡ true

-- the lowest from this number on that isn't taken, 61,000 if each below it is
pub record IsLowest (taken : ℕ → Bool) (from lowest : ℕ) : Type 0 where
  pub reached : from ≤ lowest
  pub within : lowest ≤ 61000
  pub below : AreTaken taken from lowest
  pub free : lowest < 61000 → taken lowest ≡ false

-- the first number of a block
abbrev pub block_start : ℕ → ℕ
block_start block = 32768 + 128 * block

-- the number behind its last; the last block of all is shorter
abbrev pub block_end : ℕ → ℕ
block_end block = min (32768 + 128 * (block + 1)) 61000

-- this number is one of that block, if numbers went on behind 60,999
pub record IsInBlock (number block : ℕ) : Type 0 where
  pub from : 32768 + 128 * block ≤ number
  pub before : number < 32768 + 128 * (block + 1)

abbrev pub is_marked : List Bool → ℕ → Bool
is_marked marks block = slice_index_or marks block false

-- each number of a block that is marked is taken
abbrev pub AreSound : (ℕ → Bool) → List Bool → Type 0
AreSound taken marks = (block : ℕ) → is_marked marks block ≡ true → AreTaken taken (block_start block) (block_end block)

-- each block that ends no later than at this number is marked
abbrev pub AreMarked : List Bool → ℕ → Type 0
AreMarked marks end = (block : ℕ) → block < 221 → block_end block ≤ end → is_marked marks block ≡ true

-- what holds of the lowest number and the marks that are kept beside the taken numbers
pub record IsNumbers (taken : ℕ → Bool) (first : ℕ) (marks : List Bool) : Type 0 where
  pub lowest : IsLowest taken 32768 first
  pub sound : AreSound taken marks
  pub behind : AreMarked marks first
