-- A walk over instances: which it has reached.
use Rattle.std.specs.Prelude.{◌≡◌, ℕ, ◌≤◌, Bool, true, false, List, ◌∷◌, [], ◌++◌, length, slice_index_or}
use Rattle.std.specs.Prelude.{count_by, if◌then◌else◌, nat_lt}
use Rattle.ep_machine.specs.Lists.{are_distinct, is_among}

-- the keys of the instances reached, in order, and below which key an instance can be reached
pub record Walk : Type 0 where
  pub reached : List ℕ
  pub room : ℕ

abbrev pub with_reached : Walk → ℕ → Walk
with_reached w i = if is_among w.reached i then w else record w { reached = w.reached ++ i ∷ [] }

-- the same, where there is room for it
abbrev pub with_noted : Walk → ℕ → Walk
with_noted w i = if nat_lt i w.room then with_reached w i else w

-- an instance has a mark exactly where it is reached, each is so once, and each has room
pub record IsWalk (marks : List Bool) (reached : List ℕ) (capacity : ℕ) : Type 0 where
  pub marked : (i : ℕ) → slice_index_or marks i false ≡ is_among reached i
  pub once : are_distinct reached ≡ true
  pub counted : length reached ≡ count_by (λ m. m) marks
  pub room : length marks ≤ capacity
