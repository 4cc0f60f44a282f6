-- Chains of instances, each of which watches the next.
use Rattle.std.specs.List.{Contains}
use Rattle.std.specs.Prelude.{List, suc, zero, ℕ, ◌+◌, ◌≡◌, ◌≤◌}

-- a chain of n links leads from the one instance down to the other
abbrev pub LeadsBy : List (ℕ × ℕ) → ℕ → ℕ → ℕ → Type 0
LeadsBy es zero x y = x ≡ y
LeadsBy es (suc n) x y = (next : ℕ) × Contains es (x, next) × LeadsBy es n next y

-- a chain of one link or more
abbrev pub IsAbove : List (ℕ × ℕ) → ℕ → ℕ → Type 0
IsAbove es x y = (n : ℕ) × LeadsBy es (suc n) x y

-- no loop, and no chain of more than 5 instances, both ends counted: n links join n + 1 instances
pub record IsLegalGraph (es : List (ℕ × ℕ)) : Type 0 where
  pub no_loop : (x : ℕ) → ¬ IsAbove es x x
  pub short : (n x y : ℕ) → LeadsBy es n x y → n + 1 ≤ 5

-- no chain has five links
abbrev pub IsShort : List (ℕ × ℕ) → Type 0
IsShort es = (x y : ℕ) → ¬ LeadsBy es 5 x y
