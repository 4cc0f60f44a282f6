-- The state of the machine.
use Rattle.std.specs.Prelude.{Bool, List, Option, [], slice_index_or, ℕ}
use Rattle.ep_base.specs.declared.answer.Answer.{Answer}
use Rattle.ep_base.specs.declared.counts.Counts.{Counts}
use Rattle.ep_machine.specs.Counts.{no_counts}
use Rattle.ep_machine.specs.Files.{Files, opening_files}

-- a registration: instance and target are numbers of descriptions
pub record Watch : Type 0 where
  pub number : ℕ
  pub instance : ℕ
  pub fd : ℕ
  pub target : ℕ
  pub mask : ℕ
  pub tag : ℕ
  pub armed : Bool
  pub seen : Option Counts  -- the counts at its last report
  pub rep : ℕ  -- the event of its last report, 0 before the first
  pub from : ℕ  -- the event since which it is reportable without a report

pub record Waiter : Type 0 where
  pub caller : ℕ
  pub process : ℕ
  pub instance : ℕ
  pub most : ℕ
  pub deadline : Option ℕ
  pub marked : Bool

pub record State : Type 0 where
  pub n : ℕ  -- events so far
  pub now : ℕ
  pub files : Files
  pub arrivals : List Counts  -- at each description, by number
  pub watches : List Watch  -- in order of their numbers
  pub added : ℕ  -- registrations so far
  pub waiters : List Waiter  -- in order of parking

abbrev pub opening : State
opening = record { n = 0; now = 0; files = opening_files; arrivals = []; watches = []; added = 0; waiters = [] }

abbrev pub counts_of : State → ℕ → Counts
counts_of s d = slice_index_or s.arrivals d no_counts

-- an answer, a new state, and the bits that were raised at descriptions
abbrev pub Change : Type 0
Change = Answer × State × List (ℕ × ℕ)
