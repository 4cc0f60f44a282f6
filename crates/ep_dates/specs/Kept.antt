-- The dates are those of these registrations.
use Rattle.std.specs.Prelude.{◌≡◌, Some, true, ℕ}
use Rattle.ep_base.specs.declared.ids.EntryId.{EntryId}
use Rattle.ep_dates.specs.Dates.{Dates, HasPlace, id_at, is_dated}
use Rattle.ep_interest.specs.Registrations.{Registrations, entry_under}
use Rattle.ep_interest.specs.declared.entry.Entry.{Entry}
use Rattle.ep_machine.specs.Lists.{is_among}
use Rattle.ep_rings.specs.KeyWalk.{entry_id as key_of}
use Rattle.ep_rings.specs.PlacedRows.{keys_at}

-- each has a place, an instance has in its row exactly the keys of its registrations that are dated, and these have
-- their keys under their numbers
pub record AreKept (r : Registrations) (d : Dates) : Type 0 where
  pub places : (id : EntryId) (x : Entry) → entry_under r id ≡ Some x → HasPlace d id x
  pub listed : (id : EntryId) (x : Entry) → entry_under r id ≡ Some x → is_among (keys_at d.rows x.instance.0) id.0 ≡ is_dated d x
  pub only : (i k : ℕ) → is_among (keys_at d.rows i) k ≡ true → (x : Entry) × (entry_under r (key_of k) ≡ Some x) × (x.instance.0 ≡ i)
  pub ids : (id : EntryId) (x : Entry) → entry_under r id ≡ Some x → is_dated d x ≡ true → id_at d.ids x.number ≡ id
