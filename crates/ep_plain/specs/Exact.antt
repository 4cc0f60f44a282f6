-- What is known of the dates between events, and what an event does to them before what it raised spreads.
use Rattle.std.specs.Prelude.{[], ◌<◌, ◌≡◌, ◌==◌, All, IsSome, List, Option, Some, nat_lt, true, ℕ}
use Rattle.ep_base.specs.declared.answer.Answer.{Answer}
use Rattle.ep_base.specs.declared.call.Call.TheVariants.{EpollCtl}
use Rattle.ep_base.specs.declared.call.Event.{Event}
use Rattle.ep_base.specs.declared.call.Event.TheVariants.{Call as CallOf}
use Rattle.ep_base.specs.declared.ids.DescId.{DescId}
use Rattle.ep_base.specs.declared.ids.EntryId.{EntryId}
use Rattle.ep_calls.specs.Control.{is_done}
use Rattle.ep_calls.specs.Parking.{ready_key}
use Rattle.ep_calls.specs.Parts.{Parts}
use Rattle.ep_calls.specs.Readiness.{entry_shows, readiness}
use Rattle.ep_choice.specs.Lost.{NotesLost}
use Rattle.ep_dates.specs.Dates.{Dates, event_at, is_ready}
use Rattle.ep_dates.specs.Order.{AreInTurn}
use Rattle.ep_interest.specs.Registrations.{Registrations, entry_under}
use Rattle.ep_interest.specs.declared.entry.Entry.{Entry}
use Rattle.ep_machine.specs.Files.{under}
use Rattle.ep_machine.specs.Lists.{is_among}
use Rattle.ep_plain.specs.Dating.{Fits}
use Rattle.ep_plain.specs.Loses.{Loses}
use Rattle.ep_plain.specs.declared.dating.Dating.{Dating}
use Rattle.ep_table.specs.Value.{Seen, number_under as desc_number}

-- a registration has a date exactly if it is reportable
abbrev pub TellsShown : Parts → Dates → Type 0
TellsShown p d = All (λ x. nat_lt 0 (event_at d.since x.number) ≡ entry_shows (readiness p.tables p.clock p.interest) p.tables p.clock x) p.interest.entries

-- an instance has one with a date exactly if it is ready
abbrev pub TellsReadyIn : Seen → ℕ → Registrations → Dates → Type 0
TellsReadyIn v now r d = (i : DescId) → IsSome (desc_number v i) → is_ready d i.0 ≡ ready_key v now r i.0

abbrev pub TellsReady : Parts → Dates → Type 0
TellsReady p d = TellsReadyIn p.tables p.clock p.interest d

-- at the beginning of event n
pub record IsExact (n : ℕ) (p : Parts) (d : Dating) : Type 0 where
  pub shown : TellsShown p d.dates
  pub ready : TellsReady p d.dates
  pub past : All (λ (x : Entry). x.reported_in < n) p.interest.entries
  pub order : (m : ℕ) × AreInTurn m p.interest d.dates
  pub fits : Fits p.interest d
  pub later : (k : ℕ) → p.interest.added < k → event_at d.dates.since k ≡ 0
  pub unlost : d.choice.lost.reached ≡ []

-- exactly the registrations with these numbers were last reported in event n
abbrev pub TellsReports : ℕ → List ℕ → Registrations → Type 0
TellsReports n picked r = All (λ (x : Entry). is_among picked x.number ≡ (x.reported_in == n)) r.entries

-- the event is an epoll_ctl that names this registration
abbrev pub IsNamed : Seen → Event → Entry → Type 0
IsNamed v (CallOf pid (EpollCtl epfd op fd mask tag)) x =
    (desc_number v x.instance ≡ under v.files pid.0 epfd.0) × (x.fd ≡ fd) × (desc_number v x.desc ≡ under v.files pid.0 fd.0)
IsNamed v event x = ⊥

-- if there is a registration that the event names, this is its key
abbrev pub IsAlteredKey : Seen → Event → Registrations → Option EntryId → Type 0
IsAlteredKey v event r altered = (id : EntryId) (x : Entry) → entry_under r id ≡ Some x → IsNamed v event x → altered ≡ Some id

-- event n had this answer and reported these, before what it raised spreads
pub record Follows (n : ℕ) (event : Event) (answer : Answer) (picked : List ℕ) (old : Parts) (d : Dating) (new : Parts) (e : Dating) : Type 0 where
  pub loses : Loses old.interest new.interest d.dates e.dates
  pub fits : Fits new.interest e
  pub told : TellsReports n picked new.interest
  pub altered : is_done answer ≡ true → IsAlteredKey old.tables event new.interest e.altered
  pub lost : NotesLost old new d.choice.lost.reached e.choice.lost.reached
