-- Which instances an event leaves to be marked.
use Rattle.std.specs.Int.{bit_at}
use Rattle.std.specs.Prelude.{Bool, List, None, Some, false, map, true, ℕ, ◌≡◌, ◌⊎◌, ◌||◌}
use Rattle.ep_base.specs.Limits.{Limits}
use Rattle.ep_base.specs.declared.call.Event.{Event}
use Rattle.ep_base.specs.declared.call.Event.TheVariants.{Resume}
use Rattle.ep_base.specs.declared.record.Record.{Record}
use Rattle.ep_law.specs.Laws.{Member, has_instance}
use Rattle.ep_machine.specs.Deaths.{buried}
use Rattle.ep_machine.specs.Effect.{first}
use Rattle.ep_machine.specs.Exclusive.{is_guarded, is_left, is_woken}
use Rattle.ep_machine.specs.Lists.{is_among}
use Rattle.ep_machine.specs.Readiness.{is_ready}
use Rattle.ep_machine.specs.Refusal.{refusals}
use Rattle.ep_machine.specs.Run.{run}
use Rattle.ep_machine.specs.Settle.{settle, with_from}
use Rattle.ep_machine.specs.Spread.{arrived, is_reached, raised_alive, raised_of}
use Rattle.ep_machine.specs.State.{Change, State, Waiter, Watch, opening}
use Rattle.ep_machine.specs.Step.{change, next_event}
use Rattle.ep_machine.specs.Waits.{is_marked_at, is_parked, marked_if_due, waiter_of, waits_at}
use Rattle.ep_machine.specs.Watches.{is_exclusive, links}
use Rattle.ep_nest.specs.Chains.{IsAbove}
use Rattle.ep_view.specs.AtRest.{marks_at_end, wakes_at_end}

-- the end of an event that began at state b, before marks are set
abbrev pub unmarked_end : State → Change → State
unmarked_end b c = let left = buried c.1 c.2 in with_from b (arrived left.0 left.1)

-- an event that began at state b wakes this instance
abbrev pub is_woken_by : State → Change → ℕ → Bool
is_woken_by b c e =
    let left = buried c.1 c.2 in
    let u = unmarked_end b c in
    is_woken b u (raised_alive left.0 left.1) (map (marked_if_due u.now) u.waiters) e

-- an instance that is ready and unguarded after an event, with waiters and none marked before marks are set, is woken
-- by the event, or was guarded before it
abbrev pub UnmarkedAreWoken : Type 0
UnmarkedAreWoken = (limits : Limits) (past : List Record) (s : State) (caller : ℕ) (event : Event) (picked : List ℕ) (c : Change) (e : ℕ)
    → run limits opening past ≡ Some s → first (refusals limits (next_event s) caller event) ≡ None
    → change limits (next_event s) caller event picked ≡ Some c → waits_at c.1.waiters e ≡ true
    → is_marked_at c.1.waiters e ≡ false → is_ready (settle (next_event s) c.1 c.2) e ≡ true
    → is_guarded (settle (next_event s) c.1 c.2) e ≡ false
    → (is_woken_by (next_event s) c e ≡ true) ⊎ (is_guarded s e ≡ true)

-- the event is a resumption of a caller that waits at this instance
abbrev pub ResumesAt : State → ℕ → Event → ℕ → Type 0
ResumesAt s caller Resume e = (w : Waiter) × (waiter_of s caller ≡ Some w) × (w.instance ≡ e)
ResumesAt s caller event e = ⊥

-- a caller leaves an instance exactly if the event resumes one that waits there, and it is parked no more
pub record LeavesResumed (b : State) (caller : ℕ) (event : Event) (u : State) (e : ℕ) : Type 0 where
  pub only : is_left b u e ≡ true → ResumesAt b caller event e × (is_parked u caller ≡ false)
  pub there : ResumesAt b caller event e → is_parked u caller ≡ false → is_left b u e ≡ true

abbrev pub LeavesByResuming : Type 0
LeavesByResuming = (limits : Limits) (past : List Record) (s : State) (caller : ℕ) (event : Event) (picked : List ℕ) (c : Change) (e : ℕ)
    → run limits opening past ≡ Some s → change limits (next_event s) caller event picked ≡ Some c → LeavesResumed (next_event s) caller event c.1 e

-- IN reaches this instance from below, by what an event's change raised
abbrev pub is_reached_by : Change → ℕ → Bool
is_reached_by c e = let left = buried c.1 c.2 in is_reached left.0 (raised_alive left.0 left.1) e

-- an instance that was unguarded before an event and is ready after it, with waiters and none marked before marks are
-- set, is reached from below, or the event raised IN at it, or resumed a caller that left it
abbrev pub UnmarkedAreReached : Type 0
UnmarkedAreReached = (limits : Limits) (past : List Record) (s : State) (caller : ℕ) (event : Event) (picked : List ℕ) (c : Change) (e : ℕ)
    → run limits opening past ≡ Some s → first (refusals limits (next_event s) caller event) ≡ None
    → change limits (next_event s) caller event picked ≡ Some c → waits_at c.1.waiters e ≡ true
    → is_marked_at c.1.waiters e ≡ false → is_ready (settle (next_event s) c.1 c.2) e ≡ true → is_guarded s e ≡ false
    → (is_reached_by c e ≡ true) ⊎ ((bit_at (raised_of c.2 e) 0 ≡ 1) ⊎ ((is_left (next_event s) c.1 e ≡ true) × ResumesAt (next_event s) caller event e))

-- in state t a registration of state s is gone that was exclusive or on an instance, and e is its instance, or above
-- that by links that are left
pub record HasLost (s t : State) (e : ℕ) : Type 0 where
  pub x : Watch
  pub there : Member x s.watches
  pub guards : (is_exclusive x || has_instance s.files x.target) ≡ true
  pub gone : is_among (map (λ y. y.number) t.watches) x.number ≡ false
  pub stands : (e ≡ x.instance) ⊎ IsAbove (links t) e x.instance

-- an instance that was guarded before an event and is not after it has lost such a one, or is above one that has
abbrev pub LosesGuard : Type 0
LosesGuard = (limits : Limits) (past : List Record) (s : State) (caller : ℕ) (event : Event) (picked : List ℕ) (c : Change) (e : ℕ)
    → run limits opening past ≡ Some s → first (refusals limits (next_event s) caller event) ≡ None
    → change limits (next_event s) caller event picked ≡ Some c
    → is_guarded s e ≡ true → is_guarded (settle (next_event s) c.1 c.2) e ≡ false
    → HasLost s (settle (next_event s) c.1 c.2) e

-- So whoever is to be marked at the end of an event waits at an instance that it wakes, by registrations as they stand
-- then, or at a ready and unguarded one that was guarded before the event and has lost such a registration.
abbrev pub MarkedAreLookedAt : Type 0
MarkedAreLookedAt = (limits : Limits) (past : List Record) (s : State) (caller : ℕ) (event : Event) (picked : List ℕ) (c : Change) (e : ℕ)
    → run limits opening past ≡ Some s → first (refusals limits (next_event s) caller event) ≡ None
    → change limits (next_event s) caller event picked ≡ Some c → waits_at c.1.waiters e ≡ true
    → is_marked_at c.1.waiters e ≡ false → let t = settle (next_event s) c.1 c.2 in
    marks_at_end s.waiters c.1 c.2 t e ≡ true
    → (wakes_at_end s.waiters c.1 c.2 t e ≡ true) ⊎ ((is_guarded s e ≡ true) × HasLost s t e)
