-- What contracts see of the dates: since which event each registration is reportable, and which are, by instance.
use Rattle.std.specs.Prelude.{◌<◌, ◌≡◌, ◌≤◌, Bool, List, [], None, Option, Some, if◌then◌else◌, is_some, length, nat_lt, slice_index_or, slice_set, ℕ}
use Rattle.ep_base.specs.declared.ids.EntryId.{EntryId}
use Rattle.ep_interest.specs.declared.entry.Entry.{Entry}
use Rattle.ep_walk.specs.Walk.{Walk, with_reached}
use Rattle.ep_rings.specs.PlacedRows.{KeepsRows, PlacedRows, first_in, keys_at, no_rows, with_key, without_key}

pub record Dates : Type 0 where
  pub since : List ℕ  -- by the number of each registration the event since which it is reportable, 0 where it is not
  pub ids : List EntryId  -- and the key that it had when it last came to be so
  pub rows : PlacedRows  -- for each instance the keys of its registrations that are reportable
  pub turned : Walk  -- the instances that came to have such a key, or lost the last, since this was forgotten

-- what is kept at a number
abbrev pub event_at : List ℕ → ℕ → ℕ
event_at since k = slice_index_or since k 0

-- the event since which the registration with a number is reportable, if it is
abbrev pub date_at : Dates → ℕ → Option ℕ
date_at d k = if nat_lt 0 (event_at d.since k) then Some (event_at d.since k) else None

-- the key of the registration with a number
abbrev pub id_at : List EntryId → ℕ → EntryId
id_at ids k = slice_index_or ids k (record { 0 = 0 })

-- a registration is reportable
abbrev pub is_dated : Dates → Entry → Bool
is_dated d x = nat_lt 0 (event_at d.since x.number)

-- an instance, by its key, has a registration that is
abbrev pub is_ready : Dates → ℕ → Bool
is_ready d i = is_some (first_in (keys_at d.rows i))

-- the instance is noted where its readiness is not what it was
abbrev pub noted : Bool → Bool → ℕ → Walk → Walk
noted before after i w = if before then (if after then w else with_reached w i) else if after then with_reached w i else w

abbrev pub with_row : Dates → PlacedRows → ℕ → Dates
with_row d rows i = record d { rows = rows; turned = noted (is_ready d i) (is_some (first_in (keys_at rows i))) i d.turned }

-- the registration under a key is reportable since event n
abbrev pub begun : ℕ → EntryId → Entry → Dates → Dates
begun n id x d =
    with_row (record d { since = slice_set d.since x.number n; ids = slice_set d.ids x.number id }) (with_key d.rows x.instance.0 id.0) x.instance.0

-- it is so no more
abbrev pub ended : EntryId → Entry → Dates → Dates
ended id x d = with_row (record d { since = slice_set d.since x.number 0 }) (without_key d.rows x.instance.0 id.0) x.instance.0

-- it was reported in event n, and has the last turn
abbrev pub renewed : ℕ → EntryId → Entry → Dates → Dates
renewed n id x d =
    record d { since = slice_set d.since x.number n; rows = with_key (without_key d.rows x.instance.0 id.0) x.instance.0 id.0 }

-- of no registrations
pub record AreNew (d : Dates) : Type 0 where
  pub since : d.since ≡ []
  pub ids : d.ids ≡ []
  pub rows : d.rows ≡ no_rows
  pub turned : d.turned.reached ≡ []

-- room for more: each date, each key, each row and what is noted is the same
pub record Widens (old new : Dates) : Type 0 where
  pub since : (k : ℕ) → event_at new.since k ≡ event_at old.since k
  pub since_more : length old.since ≤ length new.since
  pub ids : (k : ℕ) → id_at new.ids k ≡ id_at old.ids k
  pub ids_more : length old.ids ≤ length new.ids
  pub rows : KeepsRows old.rows new.rows
  pub reached : new.turned.reached ≡ old.turned.reached
  pub room : old.turned.room ≤ new.turned.room

-- no instance is noted
abbrev pub forgot : Dates → Dates
forgot d = record d { turned = record d.turned { reached = [] } }

-- there is room for the date and the key of a registration with a number, of an instance
pub record HasRoom (d : Dates) (n i k : ℕ) : Type 0 where
  pub since : n < length d.since
  pub ids : n < length d.ids
  pub row : i < length d.rows.rows
  pub key : k < d.rows.keys
  pub turn : i < d.turned.room

-- so there is for a registration under a key
abbrev pub HasPlace : Dates → EntryId → Entry → Type 0
HasPlace d id x = HasRoom d x.number x.instance.0 id.0
