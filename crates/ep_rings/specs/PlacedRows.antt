-- What contracts see of placed rows: one row of keys for each owner.
use Rattle.std.specs.Prelude.{◌≡◌, ◌<◌, ◌≤◌, ℕ, true, not, ◌==◌, List, [], ◌∷◌, ◌++◌, Option, Some, None}
use Rattle.std.specs.Prelude.{length, map, slice_index_or, slice_set, filter}
use Rattle.ep_base.specs.declared.ids.EntryId.{EntryId}
use Rattle.ep_machine.specs.Lists.{are_distinct, is_among}
use Rattle.ep_rings.specs.Circles.{keys_in}
use Rattle.ep_rings.specs.KeyWalk.{entry_id}
use Rattle.ep_rings.specs.Links.{next_of}
use Rattle.ep_rings.specs.declared.circle.Circle.{Circle}
use Rattle.ep_rings.specs.declared.link.Link.{Link}

-- for each owner that has a place its keys, in order, and below which number keys have places
pub record PlacedRows : Type 0 where
  pub rows : List (List ℕ)
  pub keys : ℕ

-- no owner and no key has a place
abbrev pub no_rows : PlacedRows
no_rows = record { rows = []; keys = 0 }

-- the keys of an owner, in order, and none without a place
abbrev pub keys_at : PlacedRows → ℕ → List ℕ
keys_at v i = slice_index_or v.rows i []

-- the same keys, as registrations have them
abbrev pub ids_at : PlacedRows → ℕ → List EntryId
ids_at v i = map entry_id (keys_at v i)

-- the owner has these keys
abbrev pub with_row : PlacedRows → ℕ → List ℕ → PlacedRows
with_row v i ks = record v { rows = slice_set v.rows i ks }

-- the key at the end of the owner's row
abbrev pub with_key : PlacedRows → ℕ → ℕ → PlacedRows
with_key v i k = with_row v i (keys_at v i ++ k ∷ [])

-- the owner's row without the key
abbrev pub without_key : PlacedRows → ℕ → ℕ → PlacedRows
without_key v i k = with_row v i (filter (λ x. not (x == k)) (keys_at v i))

-- the first key at the end
abbrev pub rotation_of : List ℕ → List ℕ
rotation_of [] = []
rotation_of (k ∷ ks) = ks ++ k ∷ []

-- the owner's row, turned so
abbrev pub with_turn : PlacedRows → ℕ → PlacedRows
with_turn v i = with_row v i (rotation_of (keys_at v i))

-- the first of the keys, if there is one
abbrev pub first_in : List ℕ → Option EntryId
first_in [] = None
first_in (k ∷ ks) = Some (entry_id k)

-- each row is the same, and no place is lost
pub record KeepsRows (old new : PlacedRows) : Type 0 where
  pub rows : (i : ℕ) → keys_at new i ≡ keys_at old i
  pub owners : length old.rows ≤ length new.rows
  pub keys : old.keys ≤ new.keys

-- no key stands in a row twice, each has a place, and none stands in two rows
pub record AreApart (v : PlacedRows) : Type 0 where
  pub once : (i : ℕ) → are_distinct (keys_at v i) ≡ true
  pub within : (i k : ℕ) → is_among (keys_at v i) k ≡ true → k < v.keys
  pub apart : (i j k : ℕ) → is_among (keys_at v i) k ≡ true → is_among (keys_at v j) k ≡ true
      → i ≡ j

-- where the circle of an owner begins
abbrev pub head_at : List (Option Circle) → ℕ → Option Circle
head_at heads i = slice_index_or heads i None

-- what the heads and the links mean
abbrev pub rows_from : List (Option Circle) → List Link → PlacedRows
rows_from heads links = record { rows = map (keys_in (next_of links)) heads; keys = length links }
