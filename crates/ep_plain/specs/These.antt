-- A step whose report is of given registrations.
use Rattle.std.specs.List.{find, list_any}
use Rattle.std.specs.Prelude.{◌≡◌, Bool, IfSome, List, None, Option, Some, false, is_some, true, ℕ}
use Rattle.ep_base.specs.Limits.{Limits}
use Rattle.ep_base.specs.declared.call.Call.{Call}
use Rattle.ep_base.specs.declared.call.Event.{Event}
use Rattle.ep_base.specs.declared.call.Event.TheVariants.{Call as CallOf, Resume}
use Rattle.ep_base.specs.declared.ids.DescId.{DescId}
use Rattle.ep_law.specs.Sound.{Sound}
use Rattle.ep_machine.specs.Effect.{first}
use Rattle.ep_machine.specs.Files.{table_of}
use Rattle.ep_machine.specs.Lists.{is_empty}
use Rattle.ep_machine.specs.Refusal.{call_refusals, refusals}
use Rattle.ep_machine.specs.Report.{is_pick}
use Rattle.ep_machine.specs.State.{State}
use Rattle.ep_machine.specs.Step.{call_change, change, refused_or}
use Rattle.ep_machine.specs.Watches.{is_legal, links}
use Rattle.ep_park.specs.Waiters.{is_caller, parked}
use Rattle.ep_park.specs.declared.waiter.Waiter.{Waiter}
use Rattle.ep_calls.specs.Moves.{MovesIf, StandFor}
use Rattle.ep_calls.specs.Parts.{Parts}
use Rattle.ep_calls.specs.Stands.{number_at}
use Rattle.ep_calls.specs.Wait.{Waits, wait_call}
use Rattle.ep_calls.specs.declared.wait.Wait.{Wait}
use Rattle.ep_plain.specs.declared.waiting.Waiting.{Waiting}
use Rattle.ep_plain.specs.declared.waiting.Waiting.TheVariants.{Call as Calls, Parked}

-- whether the machine has a step, at the beginning of an event, whose report is of these
abbrev pub goes_with : Limits → ℕ → Event → List ℕ → State → Bool
goes_with limits caller event picks s = is_some (refused_or (first (refusals limits s caller event)) s picks (change limits s caller event picks))

-- from every state of the machine for which the parts stand
abbrev pub ForEach : Parts → (State → Type 0) → Type 0
ForEach p Then = (s : State) → Sound s → is_legal (links s) ≡ true → StandFor p s → Then s

-- a call that makes no report
abbrev pub IsNoWait : Parts → ℕ → Call → Type 0
IsNoWait p pid call =
    ForEach p (λ s. (caller : ℕ) (picks : List ℕ) → is_some (refused_or (first (call_refusals p.tables.limits s pid call)) s picks (call_change p.tables.limits s caller pid call picks)) ≡ is_empty picks)

-- a call that waits at the instance under a key, and isn't refused
pub record IsWait (p : Parts) (call : Call) (args : Wait) (instance : DescId) : Type 0 where
  pub is : call ≡ wait_call args
  pub waits : Waits p.tables args instance

pub record CallsWait (p : Parts) (caller : ℕ) (event : Event) (args : Wait) (instance : DescId) : Type 0 where
  pub is : event ≡ CallOf args.pid (wait_call args)
  pub there : is_some (table_of p.tables.files args.pid.0) ≡ true
  pub free : list_any (is_caller caller) p.parked ≡ false
  pub waits : Waits p.tables args instance

-- the resumption of a caller that is parked and marked
pub record Resumes (p : Parts) (caller : ℕ) (event : Event) (w : Waiter) : Type 0 where
  pub is : event ≡ Resume
  pub parked : find (is_caller caller) p.parked ≡ Some (parked caller w)
  pub marked : w.marked ≡ true

-- the wait that an event makes, or none
abbrev pub AsksFor : Parts → ℕ → Event → Option Waiting → Type 0
AsksFor p caller event None = ForEach p (λ s. (picks : List ℕ) → goes_with p.tables.limits caller event picks s ≡ is_empty picks)
AsksFor p caller event (Some (Calls args instance)) = CallsWait p caller event args instance
AsksFor p caller event (Some (Parked w)) = Resumes p caller event w

-- the machine may pick these at the instance under a key
abbrev pub MayPick : Parts → DescId → ℕ → List ℕ → State → Type 0
MayPick p instance most picks s = is_pick s (number_at p.tables.keys instance) most picks ≡ true

-- where it may, this holds
abbrev pub WherePicked : Parts → DescId → ℕ → List ℕ → Type 0 → Type 0
WherePicked p instance most picks Then = ForEach p (λ s. MayPick p instance most picks s → Then)

-- the machine has a step that reports these
abbrev pub MayGo : Parts → ℕ → Event → List ℕ → State → Type 0
MayGo p caller event picks s = goes_with p.tables.limits caller event picks s ≡ true

-- where it has, these are what is picked
abbrev pub PicksThese : ℕ → Parts → ℕ → Event → List ℕ → List ℕ → Type 0
PicksThese n p caller event picks picked = MovesIf (MayGo p caller event picks) n p (λ s. picked ≡ picks)

-- the same of what is given, if anything is
abbrev pub MayReport : Parts → ℕ → Event → Option (List ℕ) → State → Type 0
MayReport p caller event given s = IfSome given (λ picks. MayGo p caller event picks s)

abbrev pub ReportsThese : ℕ → Parts → ℕ → Event → Option (List ℕ) → List ℕ → Type 0
ReportsThese n p caller event given picked = IfSome given (λ picks. PicksThese n p caller event picks picked)
