-- Of which registrations a report may be.
use Rattle.std.specs.Prelude.{◌++◌, ◌<◌, ◌≡◌, ◌≤◌, List, [], ◌∷◌, Some, false, length, min, true, ℕ}
use Rattle.ep_base.specs.declared.ids.EntryId.{EntryId}
use Rattle.ep_dates.specs.Dates.{Dates, event_at, is_dated}
use Rattle.ep_dates.specs.Order.{date_under}
use Rattle.ep_interest.specs.Registrations.{Registrations, entry_under}
use Rattle.ep_interest.specs.declared.entry.Entry.{Entry}
use Rattle.ep_machine.specs.Lists.{are_distinct, is_among}
use Rattle.ep_walk.specs.Walk.{Walk}
use Rattle.ep_rings.specs.KeyWalk.{entry_id as key_of}
use Rattle.ep_rings.specs.PlacedRows.{keys_at}

-- the registration of an instance with this number, which is reportable
pub record IsReportable (r : Registrations) (d : Dates) (i k : ℕ) (id : EntryId) (x : Entry) : Type 0 where
  pub under : entry_under r id ≡ Some x
  pub number : x.number ≡ k
  pub instance : x.instance.0 ≡ i
  pub dated : is_dated d x ≡ true

-- a report at an instance that takes `most` at most may be of these: different ones that are reportable, as many as
-- there are or as it takes, and who is left out came to be reportable no sooner than any of them was last reported
pub record IsPick (r : Registrations) (d : Dates) (instance most : ℕ) (ks : List ℕ) : Type 0 where
  pub distinct : are_distinct ks ≡ true
  pub each : (k : ℕ) → is_among ks k ≡ true → (id : EntryId) × (x : Entry) × IsReportable r d instance k id x
  pub many : length ks ≡ min most (length (keys_at d.rows instance))
  pub fair : (i j : EntryId) (x y : Entry) → IsReportable r d instance x.number i x → is_among ks x.number ≡ false
      → entry_under r j ≡ Some y → is_among ks y.number ≡ true → y.reported_in ≤ event_at d.since x.number

-- a walk has room for the key of each registration
abbrev pub AreFlaggable : Registrations → Walk → Type 0
AreFlaggable r w = (id : EntryId) (x : Entry) → entry_under r id ≡ Some x → id.0 < w.room

-- the registrations of these numbers are flagged, each once, and the last report of any of them was in event `latest`
pub record Flags (r : Registrations) (d : Dates) (instance : ℕ) (ks : List ℕ) (latest : ℕ) (flags : Walk) : Type 0 where
  pub distinct : are_distinct ks ≡ true
  pub each : (k : ℕ) → is_among ks k ≡ true → (id : EntryId) × (x : Entry) × IsReportable r d instance k id x × (is_among flags.reached id.0 ≡ true)
  pub only : (j : ℕ) → is_among flags.reached j ≡ true → (x : Entry) × (entry_under r (key_of j) ≡ Some x) × (is_among ks x.number ≡ true)
  pub bound : (id : EntryId) (x : Entry) → entry_under r id ≡ Some x → is_among ks x.number ≡ true → x.reported_in ≤ latest
  pub least : (m : ℕ) → ((id : EntryId) (x : Entry) → entry_under r id ≡ Some x → is_among ks x.number ≡ true → x.reported_in ≤ m) → latest ≤ m

-- one more was flagged
pub record FlagsOne (r : Registrations) (d : Dates) (instance k rep : ℕ) (old new : Walk) : Type 0 where
  pub key : EntryId
  pub entry : Entry
  pub it : IsReportable r d instance k key entry
  pub absent : is_among old.reached key.0 ≡ false
  pub reached : new.reached ≡ old.reached ++ key.0 ∷ []
  pub last : rep ≡ entry.reported_in

-- none is there, or it is flagged already
abbrev pub FlagsNone : Registrations → Dates → ℕ → ℕ → Walk → Type 0
FlagsNone r d instance k flags = (id : EntryId) (x : Entry) → IsReportable r d instance k id x → is_among flags.reached id.0 ≡ true

-- each of these keys is flagged
abbrev pub AreFlagged : List ℕ → List ℕ → Type 0
AreFlagged ks flagged = (k : ℕ) → is_among ks k ≡ true → is_among flagged k ≡ true

-- those before this one are, and this one isn't
pub record IsFirstLeft (ks flagged : List ℕ) (k : ℕ) : Type 0 where
  pub before : List ℕ
  pub rest : List ℕ
  pub whole : ks ≡ before ++ k ∷ rest
  pub flagged_before : AreFlagged before flagged
  pub unflagged : is_among flagged k ≡ false

-- those of an instance that aren't flagged came to be reportable in this event or later
abbrev pub AreLate : Registrations → Dates → ℕ → List ℕ → ℕ → Type 0
AreLate r d instance flagged latest = (k : ℕ) → is_among (keys_at d.rows instance) k ≡ true → is_among flagged k ≡ false → latest ≤ date_under r d k
