-- Other registrations, of which the dates are, too.
use Rattle.std.specs.Prelude.{◌≡◌, ◌⊎◌, Some, false, true, ℕ}
use Rattle.ep_base.specs.declared.ids.EntryId.{EntryId}
use Rattle.ep_dates.specs.Dates.{Dates, HasPlace, is_dated}
use Rattle.ep_interest.specs.Registrations.{Registrations, entry_under}
use Rattle.ep_interest.specs.declared.entry.Entry.{Entry}
use Rattle.ep_machine.specs.Lists.{is_among}
use Rattle.ep_rings.specs.PlacedRows.{keys_at}

-- the registration under a key has the number and the instance of one that was there
pub record WasThere (r : Registrations) (id : EntryId) (x : Entry) : Type 0 where
  pub was : Entry
  pub there : entry_under r id ≡ Some was
  pub number : was.number ≡ x.number
  pub instance : was.instance.0 ≡ x.instance.0

-- it has a place, no date, and its key stands in no row
pub record IsAdded (d : Dates) (id : EntryId) (x : Entry) : Type 0 where
  pub place : HasPlace d id x
  pub undated : is_dated d x ≡ false
  pub absent : (i : ℕ) → is_among (keys_at d.rows i) id.0 ≡ false

-- each was there or is added, and none is taken away that is dated
pub record Moves (d : Dates) (old new : Registrations) : Type 0 where
  pub each : (id : EntryId) (x : Entry) → entry_under new id ≡ Some x → WasThere old id x ⊎ IsAdded d id x
  pub left : (id : EntryId) (x : Entry) → entry_under old id ≡ Some x → is_dated d x ≡ true
      → (y : Entry) × (entry_under new id ≡ Some y) × (y.instance.0 ≡ x.instance.0)
