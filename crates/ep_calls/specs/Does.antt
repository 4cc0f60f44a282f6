-- What an event does to the parts, as the machine does it.
use Rattle.std.specs.Prelude.{◌≡◌, Bool, List, Option, ℕ}
use Rattle.ep_base.specs.declared.call.Call.{Call}
use Rattle.ep_base.specs.declared.call.Event.{Event}
use Rattle.ep_base.specs.declared.errno.Errno.{Errno}
use Rattle.ep_machine.specs.Refusal.{call_refusals, refusals}
use Rattle.ep_machine.specs.State.{Change, State}
use Rattle.ep_machine.specs.Step.{call_change, change}
use Rattle.ep_calls.specs.Parts.{Parts}
use Rattle.ep_calls.specs.declared.outcome.Outcome.{Outcome}
use Rattle.ep_calls.specs.Moves.{Goes, MovesBy, MovesIf}
use Rattle.ep_calls.specs.Raising.{IsRaising, Raises}
use Rattle.ep_calls.specs.Stands.{KeepsKeys}
use Rattle.ep_base.specs.declared.call.Event.TheVariants.{Resume}
use Rattle.ep_base.specs.declared.ids.DescId.{DescId}
use Rattle.ep_machine.specs.Watches.{number_in}
use Rattle.ep_park.specs.declared.waiter.Waiter.{Waiter}
use Rattle.ep_calls.specs.Wait.{IsPick, wait_call}
use Rattle.ep_calls.specs.declared.wait.Reportable.{Reportable}
use Rattle.ep_calls.specs.declared.wait.Wait.{Wait}

-- from these states of the machine a refusal of these or this change, with what it raises
pub record Does (From : (State → Type 0) → Type 0) (tests : State → List (Bool × Errno))
    (changed : State → List ℕ → Option Change) (outcome : Outcome) (old new : Parts) : Type 0 where
  pub moves : From (λ s. Goes (tests s) (changed s outcome.picked) s outcome.answer outcome.picked new)
  pub raises : From (λ s. Raises (tests s) (changed s outcome.picked) outcome.raising new.tables new.clock)
  pub raising : IsRaising outcome.raising new.tables
  pub limits : new.tables.limits ≡ old.tables.limits
  pub keys : KeepsKeys old.tables new.tables

-- a call at event n
abbrev pub DoesCall : ℕ → ℕ → ℕ → Call → Outcome → Parts → Parts → Type 0
DoesCall n caller p call outcome old new =
    Does (MovesBy n old) (λ s. call_refusals old.tables.limits s p call) (λ s picked. call_change old.tables.limits s caller p call picked) outcome old new

-- event n
abbrev pub DoesEvent : ℕ → ℕ → Event → Outcome → Parts → Parts → Type 0
DoesEvent n caller event outcome old new =
    Does (MovesBy n old) (λ s. refusals old.tables.limits s caller event) (λ s picked. change old.tables.limits s caller event picked) outcome old new

-- the same from states of which this holds
abbrev pub DoesCallIf : (State → Type 0) → ℕ → ℕ → ℕ → Call → Outcome → Parts → Parts → Type 0
DoesCallIf Also n caller p call outcome old new =
    Does (MovesIf Also n old) (λ s. call_refusals old.tables.limits s p call)
    (λ s picked. call_change old.tables.limits s caller p call picked) outcome old new

abbrev pub DoesEventIf : (State → Type 0) → ℕ → ℕ → Event → Outcome → Parts → Parts → Type 0
DoesEventIf Also n caller event outcome old new =
    Does (MovesIf Also n old) (λ s. refusals old.tables.limits s caller event) (λ s picked. change old.tables.limits s caller event picked) outcome old new

-- a wait at the instance under a key, or the resumption of a waiter, that picks these
abbrev pub DoesWait : ℕ → ℕ → Wait → DescId → List Reportable → Outcome → Parts → Parts → Type 0
DoesWait n caller args instance chosen outcome old new =
    DoesCallIf (IsPick old.tables instance (number_in args.max) chosen) n caller args.pid.0 (wait_call args) outcome old new

abbrev pub DoesResume : ℕ → ℕ → Waiter → List Reportable → Outcome → Parts → Parts → Type 0
DoesResume n caller waiter chosen outcome old new =
    DoesEventIf (IsPick old.tables waiter.instance (number_in waiter.max) chosen) n caller Resume outcome old new
