-- The moments that callers wait for.
use Rattle.std.specs.List.{find}
use Rattle.std.specs.Map.{lookup}
use Rattle.std.specs.Option.{option_map}
use Rattle.std.specs.Prelude.{Bool, IsSome, List, None, Option, Some, if◌then◌else◌, nat_eq, not, true, ℕ, ◌&&◌, ◌<◌, ◌≡◌, ◌^◌}
pub use Rattle.ep_due.specs.DueMap.{HasNoMoment, HasNoneReached, HasRoom, IsEarliest, IsReachedAt, Moments, SameMoments, SetsMoment, moment_of}
use Rattle.ep_machine.specs.State.{Waiter as Parked}
use Rattle.ep_machine.specs.Waits.{is_due}
use Rattle.ep_park.specs.Waiters.{is_caller}
use Rattle.ep_park.specs.declared.waiter.Waiter.{Waiter}

-- each key among them is a caller's
abbrev pub AreCallers : Moments → Type 0
AreCallers d = (key : ℕ) → IsSome (moment_of d key) → key < 2 ^ 32

-- the moment at which a waiter gets its mark
abbrev pub awaited : Waiter → Option ℕ
awaited w = if w.marked then None else w.deadline

-- each caller that is parked has the moment that its waiter awaits, and nobody else is there
pub record HasDeadlines (waiters : List (ℕ × Waiter)) (d : Moments) : Type 0 where
  pub of : (caller : ℕ) → moment_of d caller ≡ option_map awaited (lookup (nat_eq caller) waiters)

-- a waiter that has no mark and gets one now
abbrev pub awaits_mark : ℕ → Parked → Bool
awaits_mark now w = not w.marked && is_due now w.deadline

-- a caller's does
pub record IsAwaitedBy (ws : List Parked) (now caller : ℕ) : Type 0 where
  pub waiter : Parked
  pub there : find (is_caller caller) ws ≡ Some waiter
  pub awaits : awaits_mark now waiter ≡ true
