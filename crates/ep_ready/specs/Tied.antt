-- How places and rows stand for the lists.
use Rattle.std.specs.Prelude.{◌≡◌, ◌<◌, ◌==◌, ◌&&◌, ℕ, Bool, false, List, IfSome, Option, Some, None, length, map, slice_index_or}
use Rattle.ep_machine.specs.Lists.{is_among}
use Rattle.ep_rings.specs.PlacedRows.{PlacedRows, keys_at}
use Rattle.ep_ready.specs.ReadyLists.{Lists}
use Rattle.ep_ready.specs.declared.ready.Place.{Place}

-- the place of the registration with this key
abbrev pub place_at : List (Option Place) → ℕ → Option Place
place_at places e = slice_index_or places e None

abbrev pub instance_of : Option Place → Option ℕ
instance_of None = None
instance_of (Some p) = Some p.instance.0

-- whether a place stands on the list of this instance
abbrev pub stands_on : ℕ → Option Place → Bool
stands_on i None = false
stands_on i (Some p) = p.stands && p.instance.0 == i

-- what the rows and the places mean
abbrev pub value_of : PlacedRows → List (Option Place) → Lists
value_of v places = record { places = map instance_of places; lists = v.rows }

-- a row has exactly the keys whose places say so, and a key with a place has room in its instance's row
pub record IsTied (v : PlacedRows) (places : List (Option Place)) : Type 0 where
  pub listed : (i e : ℕ) → is_among (keys_at v i) e ≡ stands_on i (place_at places e)
  pub row : (e : ℕ) → IfSome (place_at places e) (λ p. p.instance.0 < length v.rows)
  pub key : (e : ℕ) → IfSome (place_at places e) (λ p. e < v.keys)
