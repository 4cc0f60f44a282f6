-- Asking registrations whether they come to be reportable, or are so no more: one way at a time.
use Rattle.std.specs.Prelude.{◌++◌, ◌<◌, ◌≡◌, ◌⊎◌, ◌==◌, ◌&&◌, ◌||◌, Bool, List, [], None, Option, Some, false, length, not, true, ℕ}
use Rattle.ep_base.specs.declared.ids.EntryId.{EntryId}
use Rattle.ep_calls.specs.Climb.{is_nested, is_nested_key}
use Rattle.ep_calls.specs.Parts.{Parts}
use Rattle.ep_calls.specs.Readiness.{entry_shows}
use Rattle.ep_dates.specs.Dates.{Dates, event_at, is_dated, is_ready}
use Rattle.ep_dates.specs.Kept.{AreKept}
use Rattle.ep_dates.specs.Order.{AreInTurn}
use Rattle.ep_interest.specs.Registrations.{Registrations, entry_under}
use Rattle.ep_interest.specs.declared.entry.Entry.{Entry}
use Rattle.ep_machine.specs.Bits.{ET, IN, has_bit}
use Rattle.ep_machine.specs.Lists.{is_among}
use Rattle.ep_rings.specs.KeyWalk.{entry_id as key_of}

-- Where `shows ready x` says whether registration x is reportable if what it watches is ready, or is not: whether it is
-- by the rows.
abbrev pub shows_by : (Bool → Entry → Bool) → Dates → Entry → Bool
shows_by shows d x = shows (is_ready d x.desc.0) x

-- what is noted is ready by now (`way` is true), or is not, and had room
abbrev pub AreTurned : Bool → Dates → Type 0
AreTurned way d = (i : ℕ) → is_among d.turned.reached i ≡ true → (is_ready d i ≡ way) × (i < d.turned.room)

-- it is dated (`way` is true) or not, or needn't come to be so, or watches one of these instances
abbrev pub IsSettled : Bool → (Bool → Entry → Bool) → Dates → List ℕ → Entry → Type 0
IsSettled way shows d pending x = (is_dated d x ≡ way) ⊎ ((shows_by shows d x ≡ not way) ⊎ (is_among pending x.desc.0 ≡ true))

-- so are all with such a key
abbrev pub AreSettled : Bool → Registrations → (Bool → Entry → Bool) → Dates → List ℕ → (ℕ → Bool) → Type 0
AreSettled way r shows d pending asked = (id : EntryId) (x : Entry) → entry_under r id ≡ Some x → asked id.0 ≡ true → IsSettled way shows d pending x

-- Registrations only come to be dated in event n (`way` is true), or only go; each that did shows that it should by
-- the rows at the end. The instances whose rows turned are noted, and all that were asked are settled but for them.
pub record Turns (way : Bool) (n : ℕ) (r : Registrations) (shows : Bool → Entry → Bool) (asked : ℕ → Bool) (old new : Dates) : Type 0 where
  pub more : List ℕ
  pub turned : new.turned ≡ record old.turned { reached = old.turned.reached ++ more }
  pub kept : AreKept r new
  pub rows : length new.rows.rows ≡ length old.rows.rows
  pub since : length new.since ≡ length old.since
  pub later : (k : ℕ) → r.added < k → event_at new.since k ≡ event_at old.since k
  pub stays : (id : EntryId) (x : Entry) → entry_under r id ≡ Some x → is_dated old x ≡ way → is_dated new x ≡ way
  pub turns : (id : EntryId) (x : Entry) → entry_under r id ≡ Some x → is_dated old x ≡ not way → is_dated new x ≡ way → shows_by shows new x ≡ way
  pub same : (id : EntryId) (x : Entry) → entry_under r id ≡ Some x → is_dated old x ≡ true → is_dated new x ≡ true → event_at new.since x.number ≡ event_at old.since x.number
  pub begins : (id : EntryId) (x : Entry) → entry_under r id ≡ Some x → is_dated old x ≡ false → is_dated new x ≡ true → event_at new.since x.number ≡ n
  pub rises : (i : ℕ) → is_ready old i ≡ way → is_ready new i ≡ way
  pub flips : (i : ℕ) → is_among more i ≡ true → (is_ready old i ≡ not way) × (is_ready new i ≡ way) × (i < old.turned.room)
  pub noted : (i : ℕ) → is_ready old i ≡ not way → is_ready new i ≡ way → is_among more i ≡ true
  pub order : AreInTurn n r old → AreInTurn n r new
  pub settled : AreSettled way r shows new more asked

-- whether a registration is reportable if what it watches is ready, or is not
abbrev pub shows_over : Parts → Bool → Entry → Bool
shows_over p below x = entry_shows (λ e. below) p.tables p.clock x

abbrev pub is_on : ℕ → Option Entry → Bool
is_on desc None = false
is_on desc (Some x) = x.desc.0 == desc

-- the registration under a key is on a description
abbrev pub watches : Registrations → ℕ → ℕ → Bool
watches r desc k = is_on desc (entry_under r (key_of k))

-- what the event's number says, if there is a question
abbrev pub Asks : Bool → ℕ → Parts → (ℕ → Bool) → Dates → Dates → Type 0
Asks way n p asked old new = Turns way n p.interest (shows_over p) asked old new

-- each registration on one of these instances is settled
abbrev pub AreWatched : Bool → Parts → Dates → List ℕ → Type 0
AreWatched way p d instances = (id : EntryId) (x : Entry) → entry_under p.interest id ≡ Some x → is_among instances x.desc.0 ≡ true → IsSettled way (shows_over p) d [] x

-- each registration is of an instance
abbrev pub AreHomes : Parts → Type 0
AreHomes p = (id : EntryId) (x : Entry) → entry_under p.interest id ≡ Some x → is_nested_key p.tables x.instance ≡ true

-- each of these keys is that of an instance
abbrev pub AreInstances : Parts → List ℕ → Type 0
AreInstances p keys = (i : ℕ) → is_among keys i ≡ true → is_nested_key p.tables (record { 0 = i }) ≡ true

-- the registration under a key, if there is one, is on an instance that is ready (`way` is true), or is not
abbrev pub IsOnTurned : Bool → Parts → Dates → EntryId → Type 0
IsOnTurned way p d id = (x : Entry) → entry_under p.interest id ≡ Some x → (is_nested p.tables x ≡ true) × (is_ready d x.desc.0 ≡ way)

-- a registration on an instance is reportable while that is ready
abbrev pub shows_ready : Entry → Bool
shows_ready x = x.armed && has_bit x.mask.0 IN && (not (has_bit x.mask.0 ET) || x.fresh)
