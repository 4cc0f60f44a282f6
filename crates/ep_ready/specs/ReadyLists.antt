-- What contracts see of the ready lists.
use Rattle.std.specs.Prelude.{◌≡◌, ◌≢◌, ◌<◌, ℕ, Bool, true, false, not, ◌==◌, List, [], ◌∷◌, ◌++◌, Option, Some}
use Rattle.std.specs.Prelude.{None, slice_index_or, slice_set, filter, if◌then◌else◌, length, map}
use Rattle.ep_rings.specs.KeyWalk.{entry_id}
use Rattle.ep_base.specs.declared.ids.EntryId.{EntryId}
use Rattle.ep_machine.specs.Lists.{are_distinct, is_among}
use Rattle.ep_rings.specs.PlacedRows.{rotation_of}

-- keys of instances and of registrations
pub record Lists : Type 0 where
  pub places : List (Option ℕ)  -- the instance of each registration that has a place
  pub lists : List (List ℕ)  -- the registrations on the list of each instance, in order

abbrev pub ids : List ℕ → List EntryId
ids ks = map entry_id ks

-- no place and no list
abbrev pub empty : Lists
empty = record { places = []; lists = [] }

abbrev pub list_at : Lists → ℕ → List ℕ
list_at l i = slice_index_or l.lists i []

-- the instance of a registration that has a place
abbrev pub instance_at : Lists → EntryId → Option ℕ
instance_at l id = slice_index_or l.places id.0 None

abbrev pub stands_by : Lists → ℕ → Option ℕ → Bool
stands_by l k None = false
stands_by l k (Some i) = is_among (list_at l i) k

-- whether a registration stands on its instance's list
abbrev pub stands : Lists → EntryId → Bool
stands l id = stands_by l id.0 (instance_at l id)

abbrev pub with_list : Lists → ℕ → List ℕ → Lists
with_list l i ks = record l { lists = slice_set l.lists i ks }

-- the key at the end, where it stands on no list
abbrev pub push_by : Lists → ℕ → Option ℕ → Lists
push_by l k None = l
push_by l k (Some i) = if is_among (list_at l i) k then l else with_list l i (list_at l i ++ k ∷ [])

abbrev pub after_push : Lists → EntryId → Lists
after_push l id = push_by l id.0 (instance_at l id)

-- the list without the key
abbrev pub removal_by : Lists → ℕ → Option ℕ → Lists
removal_by l k None = l
removal_by l k (Some i) = with_list l i (filter (λ x. not (x == k)) (list_at l i))

abbrev pub after_removal : Lists → EntryId → Lists
after_removal l id = removal_by l id.0 (instance_at l id)

-- the front at the end
abbrev pub after_rotation : Lists → ℕ → Lists
after_rotation l i = with_list l i (rotation_of (list_at l i))

abbrev pub front_in : List ℕ → Option EntryId
front_in [] = None
front_in (k ∷ ks) = Some (entry_id k)

abbrev pub front_of : Lists → ℕ → Option EntryId
front_of l i = front_in (list_at l i)

-- each place and each list are the same; how many keys have room is not said
pub record Same (a b : Lists) : Type 0 where
  pub places : (id : EntryId) → instance_at a id ≡ instance_at b id
  pub lists : (i : ℕ) → list_at a i ≡ list_at b i

-- the registration has a place of the instance, and each other place and each list are what they were
pub record GainsPlace (old new : Lists) (instance : ℕ) (entry : EntryId) : Type 0 where
  pub here : instance_at new entry ≡ Some instance
  pub others : (id : EntryId) → id.0 ≢ entry.0 → instance_at new id ≡ instance_at old id
  pub lists : (i : ℕ) → list_at new i ≡ list_at old i

-- the registration has no place and stands on no list, and each other place and what else is listed are what they
-- were
pub record LosesPlace (old new : Lists) (entry : EntryId) : Type 0 where
  pub gone : instance_at new entry ≡ None
  pub others : (id : EntryId) → id.0 ≢ entry.0 → instance_at new id ≡ instance_at old id
  pub lists : (i : ℕ) → list_at new i ≡ filter (λ x. not (x == entry.0)) (list_at old i)

-- no list has a registration twice, what stands on a list has a place of its instance, and the instance of a place
-- has a list
pub record IsSound (l : Lists) : Type 0 where
  pub once : (i : ℕ) → are_distinct (list_at l i) ≡ true
  pub own : (i : ℕ) (id : EntryId) → is_among (list_at l i) id.0 ≡ true → instance_at l id ≡ Some i
  pub within : (id : EntryId) (i : ℕ) → instance_at l id ≡ Some i → i < length l.lists
