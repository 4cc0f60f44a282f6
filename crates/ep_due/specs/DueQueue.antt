-- What contracts see of the queue: at each place nothing, or a moment or none.
use Rattle.std.specs.Prelude.{◌≡◌, ◌≢◌, ℕ, ◌<◌, ◌≤◌, nat_lt, List, length, map, Option, Some, None, slice_index_or, if◌then◌else◌}
use Rattle.ep_due.specs.declared.heap.Item.{Item}
use Rattle.ep_due.specs.Heap.{key, ArePaired, IsOrdered}

-- the moment of an item that is in use
abbrev pub moment_in_use : ℕ → List Item → ℕ → Option (Option ℕ)
moment_in_use live heap i = if nat_lt i live then Some (key heap i) else None

-- the moment of each place that is in use
abbrev pub moments : ℕ → List Item → List ℕ → List (Option (Option ℕ))
moments live heap places = map (moment_in_use live heap) places

-- the first items are in use, and in order
pub record IsHeap (live : ℕ) (heap : List Item) (places : List ℕ) : Type 0 where
  pub paired : ArePaired heap places
  pub within : live ≤ length heap
  pub ordered : IsOrdered live heap

-- `None` for no place, `Some None` for a place with no moment
abbrev pub moment_at : List (Option (Option ℕ)) → ℕ → Option (Option ℕ)
moment_at v p = slice_index_or v p None

-- the place had been none and has no moment, and each other place is as it was
pub record GainsPlace (old new : List (Option (Option ℕ))) (p : ℕ) : Type 0 where
  pub free : moment_at old p ≡ None
  pub here : moment_at new p ≡ Some None
  pub others : (q : ℕ) → q ≢ p → moment_at new q ≡ moment_at old q

-- no moment has come
abbrev pub HasNoneDue : List (Option (Option ℕ)) → ℕ → Type 0
HasNoneDue v now = (p m : ℕ) → moment_at v p ≡ Some (Some m) → now < m

-- the place's moment has come, and none has a smaller one
pub record IsLeastDue (v : List (Option (Option ℕ))) (now p : ℕ) : Type 0 where
  pub moment : ℕ
  pub its : moment_at v p ≡ Some (Some moment)
  pub due : moment ≤ now
  pub least : (q m : ℕ) → moment_at v q ≡ Some (Some m) → moment ≤ m

-- a number that was a place and is none now
abbrev pub HasFreePlace : List (Option (Option ℕ)) → Type 0
HasFreePlace v = (p : ℕ) × (p < length v) × (moment_at v p ≡ None)

-- no place has a moment
abbrev pub HasNoMoments : List (Option (Option ℕ)) → Type 0
HasNoMoments v = (p m : ℕ) → moment_at v p ≡ Some (Some m) → ⊥

-- a place has this moment, and none has a smaller one
pub record IsLeastMoment (v : List (Option (Option ℕ))) (moment : ℕ) : Type 0 where
  pub place : ℕ
  pub its : moment_at v place ≡ Some (Some moment)
  pub least : (q m : ℕ) → moment_at v q ≡ Some (Some m) → moment ≤ m
