-- A ring: a head, and the list of what stands on it.
use Rattle.std.specs.Prelude.{◌≡◌, ◌≢◌, ℕ, zero, suc, ◌<◌, ◌≤◌, List, [], ◌∷◌, length, slice_index_or}

-- from the head through the list and back, each links to the next and to the one before, and none stands twice
pub record IsRing (next prev : ℕ → ℕ) (head : ℕ) (xs : List ℕ) : Type 0 where
  pub nexts : (i : ℕ) → i ≤ length xs → next (slice_index_or (head ∷ xs) i head) ≡ slice_index_or xs i head
  pub prevs : (i : ℕ) → i ≤ length xs → prev (slice_index_or xs i head) ≡ slice_index_or (head ∷ xs) i head
  pub apart : (i j : ℕ) → i < j → j ≤ length xs → slice_index_or (head ∷ xs) i head ≢ slice_index_or (head ∷ xs) j head

-- so many keys from one on
abbrev pub walk : (ℕ → ℕ) → ℕ → ℕ → List ℕ
walk next zero k = []
walk next (suc n) k = k ∷ walk next n (next k)
