-- The places that go with registrations.
use Rattle.std.specs.List.{list_any}
use Rattle.std.specs.Prelude.{◌≡◌, ◌||◌, Bool, List, None, Some, filter, if◌then◌else◌, map, not, ℕ}
use Rattle.ep_base.specs.declared.ids.DescId.{DescId}
use Rattle.ep_base.specs.declared.ids.EntryId.{EntryId}
use Rattle.ep_interest.specs.Passes.{has_id}
use Rattle.ep_interest.specs.Registrations.{Registrations, ids, is_of, is_on}
use Rattle.ep_ready.specs.ReadyLists.{Lists, instance_at, list_at}
use Rattle.ep_table.specs.Value.{Seen, number_under}

-- the keys of which this holds have no place, and all else is what it was
pub record LosesPlaces (gone : ℕ → Bool) (old new : Lists) : Type 0 where
  pub places : (id : EntryId) → instance_at new id ≡ (if gone id.0 then None else instance_at old id)
  pub lists : (i : ℕ) → list_at new i ≡ filter (λ k. not (gone k)) (list_at old i)

-- the registrations of a description or on it
abbrev pub touches : Registrations → DescId → ℕ → Bool
touches r desc k = has_id (ids r (filter (is_of desc) r.entries)) k || has_id (ids r (filter (is_on desc) r.entries)) k

-- those of the descriptions that nothing names or holds
pub record LosesDying (tables : Seen) (r : Registrations) (old new : Lists) : Type 0 where
  pub descs : List DescId
  pub dying : map (number_under tables) descs ≡ map Some tables.dying
  pub places : LosesPlaces (λ k. list_any (λ desc. touches r desc k) descs) old new
