-- Which instances get a mark at the end of an event.
use Rattle.std.specs.List.{find, list_any}
use Rattle.std.specs.Option.{option_map}
use Rattle.std.specs.Prelude.{Bool, List, None, Option, Some, [], if◌then◌else◌, ℕ, ◌∷◌}
use Rattle.ep_base.specs.declared.call.Event.{Event}
use Rattle.ep_base.specs.declared.call.Event.TheVariants.{Resume}
use Rattle.ep_base.specs.declared.ids.DescId.{DescId}
use Rattle.ep_calls.specs.declared.raising.Raising.{Raising}
use Rattle.ep_calls.specs.declared.raising.Raising.TheVariants.{Instance}
use Rattle.ep_machine.specs.State.{Waiter}
use Rattle.ep_park.specs.Waiters.{is_caller, longest_marked}

-- with a mark for the one that waits longest at an instance, if it is ready and none is marked there
abbrev pub marked_where : (ℕ → Bool) → ℕ → List Waiter → List Waiter
marked_where ready e ws = if ready e then longest_marked e ws else ws

-- the instance at which a caller waits that an event resumes
abbrev pub resumed_at : List Waiter → ℕ → Event → Option DescId
resumed_at ws caller Resume = option_map (λ w. record { 0 = w.instance }) (find (is_caller caller) ws)
resumed_at ws caller event = None

-- the same instance, if the caller is not parked
abbrev pub left_at : List Waiter → ℕ → Option DescId → Option DescId
left_at ws caller resumed = if list_any (is_caller caller) ws then None else resumed

-- what an event attends: the instance that a caller left, or the one at which it raised IN
abbrev pub attends : Option DescId → Raising → Option DescId
attends (Some desc) raising = Some desc
attends None (Instance desc) = Some desc
attends None raising = None

-- the key of the instance that an event attends
abbrev pub attended : Option DescId → List ℕ
attended None = []
attended (Some desc) = desc.0 ∷ []
