-- What jobs give back.
use Rattle.std.specs.Prelude.{◌≡◌, ◌<◌, ◌∷◌, [], List, None, Option, Some, flat_map, length, map, slice_index_or, zip, ℕ}
use Rattle.std.specs.declared.sync.ledger.Ledger as Ledger
use Rattle.ep_base.specs.declared.ids.CallerId.{CallerId}
use Rattle.ep_pool.specs.Steps.{JobAdds}
use Rattle.ep_pool.specs.declared.job.Job.{Job}
use Rattle.ep_pool.specs.declared.job.Ran.{Ran}
use Rattle.ep_pool.specs.declared.pool.PoolReport.{PoolReport}
use Rattle.ep_shared.specs.Sessions.{caller_of, records_of}
use Rattle.ep_shared.specs.declared.book.Session.{Session}

-- the session of a job comes back, with what its steps added, or those before it stopped
pub record GivesBack {L : Type 0} {g : Ledger.Ghosts L} (job : Job L g) (session : Session L g) (stopped : Option ℕ) : Type 0 where
  pub caller : caller_of session ≡ caller_of job.session
  pub adds : JobAdds (caller_of job.session) (records_of job.session) (records_of session) job.steps.items stopped

abbrev pub HasRun : {L : Type 0} {g : Ledger.Ghosts L} → Job L g → Ran L g → Type 0
HasRun job ran = GivesBack job ran.session ran.stopped

-- each job, in order
pub record HaveRun {L : Type 0} {g : Ledger.Ghosts L} (jobs : List (Job L g)) (ran : List (Ran L g)) : Type 0 where
  pub len : length ran ≡ length jobs
  pub each : (i : ℕ) (j : Job L g) (r : Ran L g) → i < length jobs → HasRun (slice_index_or jobs i j) (slice_index_or ran i r)

-- the caller whose job stopped, if it did, with how many steps it had made
abbrev pub stop_of : ℕ → Option ℕ → List (CallerId × ℕ)
stop_of c None = []
stop_of c (Some k) = (record { 0 = c }, k) ∷ []

-- the report of all jobs: their sessions in order, and those that stopped, in order
pub record RunsAll {L : Type 0} {g : Ledger.Ghosts L} (jobs : List (Job L g)) (report : PoolReport L g) : Type 0 where
  pub stops : List (Option ℕ)
  pub len : length report.sessions.items ≡ length jobs
  pub stopped : report.stopped.items ≡ flat_map (λ x. stop_of x.0 x.1) (zip (map caller_of report.sessions.items) stops)
  pub each : (i : ℕ) (j : Job L g) (s : Session L g) → i < length jobs → GivesBack (slice_index_or jobs i j) (slice_index_or report.sessions.items i s) (slice_index_or stops i None)
