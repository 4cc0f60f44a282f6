-- Registrations that were reported are dated anew.
use Rattle.std.specs.Prelude.{◌&&◌, ◌<◌, ◌≡◌, List, Some, if◌then◌else◌, length, ℕ}
use Rattle.ep_base.specs.declared.ids.EntryId.{EntryId}
use Rattle.ep_dates.specs.Dates.{Dates, event_at, is_dated, is_ready}
use Rattle.ep_dates.specs.Kept.{AreKept}
use Rattle.ep_dates.specs.Order.{AreInTurn}
use Rattle.ep_interest.specs.Registrations.{Registrations, entry_under}
use Rattle.ep_interest.specs.declared.entry.Entry.{Entry}
use Rattle.ep_machine.specs.Lists.{is_among}

-- those with these numbers that are reportable are so since event n; no instance turns
pub record Renews (n : ℕ) (r : Registrations) (numbers : List ℕ) (old new : Dates) : Type 0 where
  pub kept : AreKept r new
  pub turned : new.turned ≡ old.turned
  pub rows : length new.rows.rows ≡ length old.rows.rows
  pub since : length new.since ≡ length old.since
  pub later : (k : ℕ) → r.added < k → event_at new.since k ≡ event_at old.since k
  pub order : AreInTurn n r old → AreInTurn n r new
  pub ready : (i : ℕ) → is_ready new i ≡ is_ready old i
  pub each : (id : EntryId) (x : Entry) → entry_under r id ≡ Some x
      → event_at new.since x.number ≡ (if is_dated old x && is_among numbers x.number then n else event_at old.since x.number)
