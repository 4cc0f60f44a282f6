-- One waiter of a list changes.
use Rattle.std.specs.Prelude.{Bool, List, [], if◌then◌else◌, ℕ, ◌∷◌}
use Rattle.ep_machine.specs.State.{Waiter as Parked}
use Rattle.ep_park.specs.Waiters.{is_caller}

abbrev pub with_mark_of : Bool → Parked → Parked
with_mark_of marked w = record w { marked = marked }

-- one caller's waiter has this mark
abbrev pub with_mark_at : ℕ → Bool → List Parked → List Parked
with_mark_at caller marked [] = []
with_mark_at caller marked (w ∷ ws) = if is_caller caller w then with_mark_of marked w ∷ ws else w ∷ with_mark_at caller marked ws
