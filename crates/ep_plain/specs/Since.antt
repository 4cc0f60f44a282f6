-- Since which event registrations are reportable, by their numbers.
use Rattle.std.specs.Prelude.{◌≡◌, ◌<◌, All, Bool, List, nat_lt, true, ℕ}
use Rattle.ep_dates.specs.Dates.{event_at}
use Rattle.ep_dates.specs.Touched.{date_of}
use Rattle.ep_interest.specs.Registrations.{Registrations}
use Rattle.ep_interest.specs.declared.entry.Entry.{Entry}
use Rattle.ep_machine.specs.Readiness.{is_reportable}
use Rattle.ep_machine.specs.State.{State}

-- what event n leaves of a registration's date
abbrev pub entry_date : (Entry → Bool) → ℕ → List ℕ → Entry → ℕ
entry_date shows n since x = date_of n (shows x) x.reported_in (event_at since x.number)

-- each registration is dated, and nothing else
pub record AreDated (shows : Entry → Bool) (n : ℕ) (interest : Registrations) (old new : List ℕ) : Type 0 where
  pub each : All (λ x. event_at new x.number ≡ entry_date shows n old x) interest.entries
  pub later : (k : ℕ) → interest.added < k → event_at new k ≡ event_at old k

-- the dates at the end of an event: of a reportable registration the event since which it is, and 0 of any other
pub record IsDated (s : State) (since : List ℕ) : Type 0 where
  pub later : (k : ℕ) → s.added < k → event_at since k ≡ 0
  pub shown : All (λ x. nat_lt 0 (event_at since x.number) ≡ is_reportable s x) s.watches
  pub from : All (λ x. is_reportable s x ≡ true → event_at since x.number ≡ x.from) s.watches
