-- Bounds of the longest chains that start at instances.
use Rattle.ep_nest.specs.Chains.{LeadsBy}
use Rattle.ep_nest.specs.Lengths.{HasPlaces, IsLongest}
use Rattle.ep_nest.specs.Links.{along, edges}
use Rattle.ep_nest.specs.declared.depths.Depths.{Depths}
use Rattle.ep_nest.specs.declared.link.Link.{Link}
use Rattle.ep_nest.specs.declared.link.Way.TheVariants.{Down, Up}
use Rattle.std.specs.List.{Contains}
use Rattle.std.specs.Prelude.{List, if◌then◌else◌, length, nat_lt, slice_index_or, ℕ, ◌+◌, ◌<◌, ◌≡◌, ◌≤◌, ◌⊎◌}

-- the bound of an instance
abbrev pub depth_at : List ℕ → ℕ → ℕ
depth_at depths x = slice_index_or depths x 0

-- with a link more; no chain has more than four
abbrev pub one_more : ℕ → ℕ
one_more n = if nat_lt n 4 then n + 1 else 4

-- the bound of the one allows for a link to the other
abbrev pub Covers : List ℕ → ℕ → ℕ → Type 0
Covers depths x y = one_more (depth_at depths y) ≤ depth_at depths x

-- so does each of these links
abbrev pub AreDepths : List (ℕ × ℕ) → List ℕ → Type 0
AreDepths es depths = (x y : ℕ) → Contains es (x, y) → Covers depths x y

-- no bound sinks, and a link is covered that was so, or to whose end a bound rose
pub record Deepens (es : List (ℕ × ℕ)) (old new : List ℕ) : Type 0 where
  pub more : (x : ℕ) → depth_at old x ≤ depth_at new x
  pub covers : (x y : ℕ) → Contains es (x, y) → Covers old x y ⊎ (depth_at old y < depth_at new y) → Covers new x y
  pub length : length new ≡ length old

-- the bounds of a graph along both ways, with a place for each of its instances
pub record AreDeep {A : Type 0} (ls : List Link) (d : Depths A) : Type 0 where
  pub below : AreDepths (along Down ls) d.below.items
  pub above : AreDepths (along Up ls) d.above.items
  pub places_below : HasPlaces (edges ls) (length d.below.items)
  pub places_above : HasPlaces (edges ls) (length d.above.items)

-- no chain of so many links leads from an instance along a way
abbrev pub EndsWithin : ℕ → List (ℕ × ℕ) → ℕ → Type 0
EndsWithin links es x = (y : ℕ) → ¬ LeadsBy es links x y

-- bounds of the chains above the one and below the other, with fewer than four links together
pub record IsShallow (ls : List Link) (outer inner : ℕ) : Type 0 where
  pub above : ℕ
  pub below : ℕ
  pub up : (n x : ℕ) → LeadsBy (along Up ls) n outer x → n ≤ above
  pub down : (n y : ℕ) → LeadsBy (along Down ls) n inner y → n ≤ below
  pub fits : above + below < 4

-- the longest of them, with four links or more together
pub record IsTooDeep (ls : List Link) (outer inner : ℕ) : Type 0 where
  pub above : ℕ
  pub below : ℕ
  pub up : IsLongest (along Up ls) outer above
  pub down : IsLongest (along Down ls) inner below
  pub many : 4 ≤ above + below
