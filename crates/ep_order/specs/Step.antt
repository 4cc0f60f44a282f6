-- What a step does to the events by which registrations are reported in turn.
use Rattle.std.specs.Prelude.{◌≡◌, ◌≤◌, ◌+◌, ◌⊎◌, List, Some, if◌then◌else◌, true, ℕ}
use Rattle.ep_base.specs.Limits.{Limits}
use Rattle.ep_base.specs.declared.answer.Answer.{Answer}
use Rattle.ep_base.specs.declared.call.Event.{Event}
use Rattle.ep_law.specs.Laws.{Member}
use Rattle.ep_machine.specs.Lists.{is_among}
use Rattle.ep_machine.specs.Readiness.{is_reportable}
use Rattle.ep_machine.specs.Settle.{reportable_numbers}
use Rattle.ep_machine.specs.State.{State, Watch}
use Rattle.ep_machine.specs.Step.{next_event, step}

-- one that stood in state b, at the beginning of the event, as it was or as the report of these numbers left it
pub record WasThere (b : State) (picked : List ℕ) (x : Watch) : Type 0 where
  pub was : Watch
  pub there : Member was b.watches
  pub number : x.number ≡ was.number
  pub instance : x.instance ≡ was.instance
  pub turn : ((x.rep ≡ was.rep) × (x.from ≡ was.from)) ⊎ ((is_among picked x.number ≡ true) × (x.rep ≡ b.n) × (x.from ≡ b.n))

-- the one that the event added
pub record IsNew (b : State) (x : Watch) : Type 0 where
  pub number : x.number ≡ b.added + 1
  pub rep : x.rep ≡ 0

abbrev pub Source : State → List ℕ → Watch → Type 0
Source b picked x = WasThere b picked x ⊎ IsNew b x

-- of one of state t, at the end of the event: where it comes from, and that it is reportable since before exactly
-- where it was at the beginning, and else since this event
pub record HasTurn (b t : State) (picked : List ℕ) (y : Watch) : Type 0 where
  pub x : Watch
  pub source : Source b picked x
  pub number : y.number ≡ x.number
  pub instance : y.instance ≡ x.instance
  pub rep : y.rep ≡ x.rep
  pub from : is_reportable t y ≡ true → y.from ≡ (if is_among (reportable_numbers b) y.number then x.from else b.n)

abbrev pub StepKeepsTurns : Type 0
StepKeepsTurns = (limits : Limits) (s t : State) (caller : ℕ) (event : Event) (picked : List ℕ) (a : Answer)
    → step limits s caller event picked ≡ Some (a, t)
    → (y : Watch) → Member y t.watches → is_reportable t y ≡ true → HasTurn (next_event s) t picked y

-- a step adds one registration, or none
abbrev pub StepAddsOne : Type 0
StepAddsOne = (limits : Limits) (s t : State) (caller : ℕ) (event : Event) (picked : List ℕ) (a : Answer)
    → step limits s caller event picked ≡ Some (a, t)
    → (s.added ≤ t.added) × (t.added ≤ s.added + 1)
