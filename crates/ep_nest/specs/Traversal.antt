-- What a walk through the graph needs.
use Rattle.ep_nest.specs.Lengths.{HasPlaces}
use Rattle.ep_nest.specs.Links.{edges}
use Rattle.ep_nest.specs.declared.link.Link.{Link}
use Rattle.ep_nest.specs.declared.traversal.Traversal.{Traversal}
use Rattle.std.specs.Prelude.{List, false, length, replicate, slice_index_or, vec_capacity, ℕ, ◌++◌, ◌<◌, ◌≡◌, ◌≤◌}

-- a walk over these links has a mark for each instance, and room for all that it can find
pub record HasRoom {A : Type 0} (ls : List Link) (w : Traversal A) : Type 0 where
  pub marks : HasPlaces (edges ls) (length w.marks.items)
  pub gathered : length ls ≤ vec_capacity w.gathered
  pub reached : length w.marks.items ≤ vec_capacity w.reached
  pub level : length w.marks.items ≤ vec_capacity w.level

-- no mark is left
abbrev pub IsClear : {A : Type 0} → Traversal A → Type 0
IsClear w = (x : ℕ) → slice_index_or w.marks.items x false ≡ false

-- there are further marks at most, which aren't set, and more room
pub record HasGrown {A : Type 0} (old new : Traversal A) : Type 0 where
  pub marks : (n : ℕ) × (new.marks.items ≡ old.marks.items ++ replicate n false)
  pub gathered : vec_capacity old.gathered ≤ vec_capacity new.gathered
  pub reached : length old.marks.items ≤ vec_capacity old.reached → length new.marks.items ≤ vec_capacity new.reached
  pub level : length old.marks.items ≤ vec_capacity old.level → length new.marks.items ≤ vec_capacity new.level

-- an instance has its mark, and there is room for so many links
pub record HasPlace {A : Type 0} (w : Traversal A) (key many : ℕ) : Type 0 where
  pub marks : key < length w.marks.items
  pub gathered : many ≤ vec_capacity w.gathered
