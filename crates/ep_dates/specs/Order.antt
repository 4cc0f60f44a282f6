-- Along the row of an instance dates don't sink.
use Rattle.std.specs.List.{AllByRecursion}
use Rattle.std.specs.Prelude.{◌≡◌, ◌≤◌, List, [], ◌∷◌, None, Option, Some, map, true, ℕ}
use Rattle.ep_dates.specs.Dates.{Dates, event_at}
use Rattle.ep_interest.specs.Registrations.{Registrations, entry_under}
use Rattle.ep_interest.specs.declared.entry.Entry.{Entry}
use Rattle.ep_machine.specs.Lists.{is_among}
use Rattle.ep_rings.specs.KeyWalk.{entry_id as key_of}
use Rattle.ep_rings.specs.PlacedRows.{keys_at}

abbrev pub date_found : Dates → Option Entry → ℕ
date_found d None = 0
date_found d (Some x) = event_at d.since x.number

-- the date of the registration under a key
abbrev pub date_under : Registrations → Dates → ℕ → ℕ
date_under r d k = date_found d (entry_under r (key_of k))

-- each is at least those before
abbrev pub Rise : List ℕ → Type 0
Rise [] = Unit {0}
Rise (e ∷ es) = AllByRecursion (λ f. e ≤ f) es × Rise es

-- so are the dates along each row, and none is above n
pub record AreInTurn (n : ℕ) (r : Registrations) (d : Dates) : Type 0 where
  pub rise : (i : ℕ) → Rise (map (date_under r d) (keys_at d.rows i))
  pub past : (i k : ℕ) → is_among (keys_at d.rows i) k ≡ true → date_under r d k ≤ n
