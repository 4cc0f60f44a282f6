-- A table of marks.
use Rattle.ep_machine.specs.Lists.{are_distinct, is_among}
use Rattle.std.specs.Prelude.{Bool, List, false, slice_index_or, true, ℕ, ◌≡◌}

abbrev pub IsMarked : List Bool → ℕ → Type 0
IsMarked marks x = slice_index_or marks x false ≡ true

-- each of these keys once, and the marks are theirs
pub record AreNoted (marks : List Bool) (ks : List ℕ) : Type 0 where
  pub each : (x : ℕ) → slice_index_or marks x false ≡ is_among ks x
  pub once : are_distinct ks ≡ true
