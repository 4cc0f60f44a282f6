-- Registrations change, and those that go lose their dates.
use Rattle.std.specs.Prelude.{◌<◌, ◌≡◌, ◌⊎◌, Some, true, ℕ}
use Rattle.ep_base.specs.declared.ids.EntryId.{EntryId}
use Rattle.ep_dates.specs.Dates.{Dates, event_at, is_ready}
use Rattle.ep_dates.specs.Kept.{AreKept}
use Rattle.ep_dates.specs.Order.{AreInTurn}
use Rattle.ep_interest.specs.Registrations.{Registrations, entry_under}
use Rattle.ep_interest.specs.declared.entry.Entry.{Entry}
use Rattle.ep_machine.specs.Lists.{is_among}

-- the dates are those of the new registrations, each of which has the date that it had, or none if it is added; an
-- instance that is ready no more is noted
pub record Loses (old new : Registrations) (d e : Dates) : Type 0 where
  pub kept : AreKept new e
  pub stays : (id : EntryId) (x : Entry) → entry_under new id ≡ Some x → event_at e.since x.number ≡ event_at d.since x.number
  pub later : (k : ℕ) → new.added < k → event_at e.since k ≡ event_at d.since k
  pub noted : (i : ℕ) → is_ready d i ≡ true → (is_ready e i ≡ true) ⊎ (is_among e.turned.reached i ≡ true)
  pub still : (i : ℕ) → is_among d.turned.reached i ≡ true → is_among e.turned.reached i ≡ true
  pub order : (n : ℕ) → AreInTurn n old d → AreInTurn n new e
