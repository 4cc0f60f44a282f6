-- Whom the end of an event marks.
use Rattle.std.specs.Prelude.{Bool, List, [], map, not, ℕ, ◌&&◌, ◌||◌, ◌∷◌}
use Rattle.ep_machine.specs.Exclusive.{gets_mark}
use Rattle.ep_machine.specs.State.{State, Waiter}
use Rattle.ep_machine.specs.Waits.{is_marked_at, marked_if_due, waits_at}

-- The first of `all` at each instance for which the test holds and at which none of them is marked. `before` are those
-- that parked earlier.
abbrev pub first_marked : (ℕ → Bool) → List Waiter → List Waiter → List Waiter → List Waiter
first_marked test all before [] = []
first_marked test all before (w ∷ ws) =
    record w { marked = w.marked || not (waits_at before w.instance) && not (is_marked_at all w.instance) && test w.instance }
    ∷ first_marked test all (w ∷ before) ws

-- those that are due, and then the first at each instance for which the test holds
abbrev pub marked_by : (ℕ → Bool) → ℕ → List Waiter → List Waiter
marked_by test now ws = let due = map (marked_if_due now) ws in first_marked test due [] due

-- A deadline that is reached always marks. Beside that each instance that is ready, and unguarded or woken, gets a
-- mark.
abbrev pub with_marks : State → List (ℕ × ℕ) → State → State
with_marks before raised s =
    let due = map (marked_if_due s.now) s.waiters in
    record s { waiters = marked_by (gets_mark before s raised due) s.now s.waiters }
