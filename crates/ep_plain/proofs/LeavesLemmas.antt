-- A wait or a resumption leaves the files and the clock, and creates no timer.
use Rattle.std.proofs.Common.{ℕ, inr, subst, sym}
use Rattle.ep_alarms.specs.Changes.{LeavesFiles, MayCreate, MovesClock, TouchesTables}
use Rattle.ep_base.specs.declared.call.Event.{Event}
use Rattle.ep_base.specs.declared.ids.DescId.{DescId}
use Rattle.ep_calls.specs.Parts.{Parts}
use Rattle.ep_calls.specs.declared.outcome.Outcome.{Outcome}
use Rattle.ep_calls.specs.declared.wait.Wait.{Wait}
use Rattle.ep_park.specs.declared.waiter.Waiter.{Waiter}
use Rattle.ep_plain.specs.These.{CallsWait, Resumes}

module _ (p q : Parts) (caller : ℕ) (event : Event) where
  -- a wait
  module _ (args : Wait) (instance : DescId) (of : CallsWait p caller event args instance) where
    pub wait_touches : (outcome : Outcome) → LeavesFiles outcome.raising p q → TouchesTables event outcome.answer p q
    wait_touches outcome leaves = subst (λ (e : Event). TouchesTables e outcome.answer p q) (sym of.is) (inr (of.there, leaves.files))

    pub wait_moves : (outcome : Outcome) → LeavesFiles outcome.raising p q → MovesClock event outcome.raising p.clock q.clock
    wait_moves outcome leaves = subst (λ (e : Event). MovesClock e outcome.raising p.clock q.clock) (sym of.is) leaves.clock

    pub wait_creates : MayCreate event → ⊥
    wait_creates creates = subst MayCreate of.is creates

  -- a resumption
  module _ (w : Waiter) (of : Resumes p caller event w) where
    pub resume_touches : (outcome : Outcome) → LeavesFiles outcome.raising p q → TouchesTables event outcome.answer p q
    resume_touches outcome leaves = subst (λ (e : Event). TouchesTables e outcome.answer p q) (sym of.is) leaves.files

    pub resume_moves : (outcome : Outcome) → LeavesFiles outcome.raising p q → MovesClock event outcome.raising p.clock q.clock
    resume_moves outcome leaves = subst (λ (e : Event). MovesClock e outcome.raising p.clock q.clock) (sym of.is) leaves.clock

    pub resume_creates : MayCreate event → ⊥
    resume_creates creates = subst MayCreate of.is creates
