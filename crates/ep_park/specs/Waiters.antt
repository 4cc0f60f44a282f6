-- Waiters as the machine keeps them, but that an instance is a key here.
use Rattle.std.specs.Prelude.{Bool, List, [], filter, if◌then◌else◌, map, not, true, ℕ, ◌&&◌, ◌==◌, ◌∷◌}
use Rattle.ep_machine.specs.State.{Waiter as Parked}
use Rattle.ep_machine.specs.Waits.{is_marked_at}
use Rattle.ep_machine.specs.Watches.{number_in}
use Rattle.ep_park.specs.declared.waiter.Waiter.{Waiter}

-- what a caller's waiter stands for
abbrev pub parked : ℕ → Waiter → Parked
parked caller w =
    record { caller = caller; process = w.process.0; instance = w.instance.0; most = number_in w.max; deadline = w.deadline; marked = w.marked }

abbrev pub is_caller : ℕ → Parked → Bool
is_caller caller w = w.caller == caller

abbrev pub is_at : ℕ → Parked → Bool
is_at instance w = w.instance == instance

abbrev pub is_of : ℕ → Parked → Bool
is_of process w = w.process == process

abbrev pub is_marked_caller : ℕ → Parked → Bool
is_marked_caller caller w = is_caller caller w && w.marked

-- the waiter of a caller is gone, the rest stay in order
abbrev pub without : ℕ → List Parked → List Parked
without caller ws = filter (λ w. not (is_caller caller w)) ws

abbrev pub with_mark : Parked → Parked
with_mark w = record w { marked = true }

-- the one of an instance that was parked first is marked
abbrev pub first_marked : ℕ → List Parked → List Parked
first_marked instance [] = []
first_marked instance (w ∷ ws) = if is_at instance w then with_mark w ∷ ws else w ∷ first_marked instance ws

-- the same, unless one of the instance is marked already
abbrev pub longest_marked : ℕ → List Parked → List Parked
longest_marked instance ws = if is_marked_at ws instance then ws else first_marked instance ws

-- what waiters by caller stand for
abbrev pub listed : List (ℕ × Waiter) → List Parked
listed es = map (λ e. parked e.0 e.1) es
