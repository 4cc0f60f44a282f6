-- Registrations lose their dates that are to be taken away.
use Rattle.std.specs.Prelude.{◌<◌, ◌≡◌, ◌⊎◌, ◌==◌, ◌||◌, Bool, List, None, Option, Some, false, length, true, ℕ}
use Rattle.std.specs.List.{list_any}
use Rattle.ep_base.specs.declared.ids.DescId.{DescId}
use Rattle.ep_base.specs.declared.ids.EntryId.{EntryId}
use Rattle.ep_dates.specs.Dates.{Dates, event_at, is_ready}
use Rattle.ep_dates.specs.Kept.{AreKept}
use Rattle.ep_dates.specs.Order.{AreInTurn}
use Rattle.ep_interest.specs.Registrations.{Registrations, entry_under}
use Rattle.ep_interest.specs.declared.entry.Entry.{Entry}
use Rattle.ep_machine.specs.Lists.{is_among}
use Rattle.ep_rings.specs.KeyWalk.{entry_id as key_of}

-- those with such keys are dated no more, all others as they were, and what lost the last of its row is noted
pub record Drops (r : Registrations) (gone : ℕ → Bool) (old new : Dates) : Type 0 where
  pub kept : AreKept r new
  pub rows : length new.rows.rows ≡ length old.rows.rows
  pub since : length new.since ≡ length old.since
  pub ids : new.ids ≡ old.ids
  pub room : new.turned.room ≡ old.turned.room
  pub later : (k : ℕ) → r.added < k → event_at new.since k ≡ event_at old.since k
  pub stays : (id : EntryId) (x : Entry) → entry_under r id ≡ Some x → gone id.0 ≡ false → event_at new.since x.number ≡ event_at old.since x.number
  pub goes : (id : EntryId) (x : Entry) → entry_under r id ≡ Some x → gone id.0 ≡ true → event_at new.since x.number ≡ 0
  pub idle : (i : ℕ) → is_ready old i ≡ false → is_ready new i ≡ false
  pub noted : (i : ℕ) → is_ready old i ≡ true → (is_ready new i ≡ true) ⊎ (is_among new.turned.reached i ≡ true)
  pub still : (i : ℕ) → is_among old.turned.reached i ≡ true → is_among new.turned.reached i ≡ true
  pub order : (n : ℕ) → AreInTurn n r old → AreInTurn n r new

abbrev pub touches_found : ℕ → Option Entry → Bool
touches_found desc None = false
touches_found desc (Some x) = x.instance.0 == desc || x.desc.0 == desc

-- the registration under a key is of an instance, or on a description
abbrev pub touches : Registrations → ℕ → ℕ → Bool
touches r desc k = touches_found desc (entry_under r (key_of k))

abbrev pub is_in_found : ℕ → Option Entry → Bool
is_in_found instance None = false
is_in_found instance (Some x) = x.instance.0 == instance

-- it is of an instance
abbrev pub is_in : Registrations → ℕ → ℕ → Bool
is_in r instance k = is_in_found instance (entry_under r (key_of k))

-- or of one of these, or on one
abbrev pub touches_any : Registrations → List DescId → ℕ → Bool
touches_any r descs k = list_any (λ desc. touches r desc.0 k) descs
