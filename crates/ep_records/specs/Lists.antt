-- What stands beside the slots of a history.
use Rattle.std.specs.Prelude.{List, [], drop, take, ℕ}
use Rattle.ep_base.specs.declared.answer.Answer.TheVariants as answers
use Rattle.ep_base.specs.declared.answer.Report.{Report}
use Rattle.ep_base.specs.declared.call.Event.TheVariants as events
use Rattle.ep_base.specs.declared.record.Record.{Record}

pub record Lists : Type 0 where
  pub long : List Record  -- the records that are kept whole
  pub reports : List Report
  pub numbers : List ℕ  -- of the registrations that are reported
  pub bytes : List ℕ
  pub room : ℕ  -- for whole records

-- so many from a place on
abbrev pub stretch : {X : Type 0} → List X → ℕ → ℕ → List X
stretch xs from count = take count (drop from xs)

-- a record of which nothing is said
abbrev pub blank : Record
blank = record { caller = record { 0 = 0 }; event = events.Resume; answer = answers.Still; picked = [] }
