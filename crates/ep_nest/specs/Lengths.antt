-- The longest chain from an instance, by its number of links.
use Rattle.ep_machine.specs.Lists.{is_among}
use Rattle.ep_nest.specs.Chains.{LeadsBy}
use Rattle.std.specs.List.{All, Contains}
use Rattle.std.specs.Prelude.{List, true, ℕ, ◌<◌, ◌≡◌, ◌≤◌, ◌↔◌}

-- every instance of these links has a place in a table of this length
abbrev pub HasPlaces : List (ℕ × ℕ) → ℕ → Type 0
HasPlaces es room = All (λ e. (e.0 < room) × (e.1 < room)) es

-- a chain of that many links starts at the instance, and none that is longer
pub record IsLongest (es : List (ℕ × ℕ)) (x length : ℕ) : Type 0 where
  pub chain : (y : ℕ) × LeadsBy es length x y
  pub longest : (n y : ℕ) → LeadsBy es n x y → n ≤ length

-- the instances to which links lead from these
abbrev pub NextLevel : List (ℕ × ℕ) → List ℕ → List ℕ → Type 0
NextLevel es level next = (z : ℕ) → (is_among next z ≡ true) ↔ ((y : ℕ) × (is_among level y ≡ true) × Contains es (y, z))
