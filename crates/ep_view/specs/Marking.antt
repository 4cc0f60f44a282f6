-- Which instances an event marks, by registrations as they are kept while it lasts: passes_in says which pass something
-- on.
use Rattle.std.specs.List.{find, list_any}
use Rattle.std.specs.Prelude.{Bool, List, None, Option, Some, [], false, if◌then◌else◌, map, nat_lt, not, ℕ, ◌&&◌, ◌==◌, ◌||◌, ◌∷◌}
use Rattle.ep_machine.specs.Bits.{EXCLUSIVE, IN, asked, has_bit}
use Rattle.ep_machine.specs.Files.{Files}
use Rattle.ep_machine.specs.State.{Waiter}
use Rattle.ep_machine.specs.Waits.{is_marked_at, waits_at}
use Rattle.ep_view.specs.KernelView.{KernelWatch, any_within, reached_now, ready_now, watches_instance}

abbrev pub is_guard : KernelWatch → Bool
is_guard x = has_bit x.mask EXCLUSIVE

abbrev pub guards : (ℕ → Bool) → KernelWatch → Bool
guards guarded x = is_guard x || guarded x.target

-- an exclusive one is in it or in an instance beneath it
unfoldable pub guarded_now : List KernelWatch → ℕ → Bool
guarded_now xs e = any_within guards 5 xs e

-- an armed one that asks for IN lets it climb, from the instance below or from one that is above that
abbrev pub lets_up : Files → ℕ → (ℕ → Bool) → KernelWatch → Bool
lets_up files below up x = x.armed && (below == x.target || watches_instance files x && up x.target) && nat_lt 0 (asked x.mask IN)

unfoldable pub above_now : Files → List KernelWatch → ℕ → ℕ → Bool
above_now files xs below e = any_within (lets_up files below) 5 xs e

-- it is ready, has a waiter and has none marked
abbrev pub is_awaited_by : (ℕ → Bool) → List Waiter → ℕ → Bool
is_awaited_by ready ws e = ready e && waits_at ws e && not (is_marked_at ws e)

-- its instance is, or one above it
abbrev pub finds_now : Files → List KernelWatch → (ℕ → Bool) → List Waiter → KernelWatch → Bool
finds_now files xs ready ws x = list_any (λ w. (x.instance == w.instance || above_now files xs x.instance w.instance) && is_awaited_by ready ws w.instance) ws

-- of the exclusive ones on this target that pass something on the first that finds a waiter
abbrev pub is_candidate : Files → ℕ → List KernelWatch → (ℕ → Bool) → List Waiter → ℕ → KernelWatch → Bool
is_candidate files n xs ready ws d x = is_guard x && x.target == d && x.passes_in == n && finds_now files xs ready ws x

abbrev pub choice_at : Files → ℕ → List KernelWatch → (ℕ → Bool) → List Waiter → ℕ → Option KernelWatch
choice_at files n xs ready ws d = find (is_candidate files n xs ready ws d) xs

abbrev pub has_number : ℕ → Option KernelWatch → Bool
has_number k None = false
has_number k (Some x) = x.number == k

-- all others of the exclusive ones pass nothing on any more
abbrev pub keeps_passing : Files → ℕ → List KernelWatch → (ℕ → Bool) → List Waiter → KernelWatch → Bool
keeps_passing files n xs ready ws x = not (is_guard x) || has_number x.number (choice_at files n xs ready ws x.target)

abbrev pub passing_if : Bool → KernelWatch → KernelWatch
passing_if keeps x = record x { passes_in = if keeps then x.passes_in else 0 }

abbrev pub narrowed_now : Files → ℕ → List KernelWatch → (ℕ → Bool) → List Waiter → List KernelWatch
narrowed_now files n xs ready ws = map (λ x. passing_if (keeps_passing files n xs ready ws x) x) xs

-- The same one target after another, as each is narrowed by the choice that is made there then.
abbrev pub stopped_at : ℕ → Option KernelWatch → KernelWatch → KernelWatch
stopped_at d choice x = if x.target == d && is_guard x && not (has_number x.number choice) then record x { passes_in = 0 } else x

abbrev pub narrowed_each : Files → ℕ → (ℕ → Bool) → List Waiter → List ℕ → List KernelWatch → List KernelWatch
narrowed_each files n ready ws [] xs = xs
narrowed_each files n ready ws (d ∷ ds) xs = narrowed_each files n ready ws ds (map (stopped_at d (choice_at files n xs ready ws d)) xs)

-- a caller that was parked at it is parked no more
abbrev pub left_now : List Waiter → List Waiter → ℕ → Bool
left_now old new e = list_any (λ w. w.instance == e && not (list_any (λ v. v.caller == w.caller) new)) old

-- the event raised IN at it, reaches it or let a caller leave it
abbrev pub wakes_now : Files → ℕ → ℕ → List KernelWatch → List Waiter → (ℕ → Bool) → (ℕ → Bool) → ℕ → Bool
wakes_now files now n xs due raised left e = raised e || reached_now files n (narrowed_now files n xs (ready_now files now xs) due) e || left e

-- if marks for deadlines are these: it is ready, and unguarded or woken
abbrev pub gets_mark_now : Files → ℕ → ℕ → List KernelWatch → List Waiter → (ℕ → Bool) → (ℕ → Bool) → ℕ → Bool
gets_mark_now files now n xs due raised left e =
    ready_now files now xs e && (not (guarded_now xs e) || wakes_now files now n xs due raised left e)
