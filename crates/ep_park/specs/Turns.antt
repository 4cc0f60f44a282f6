-- Instances get their marks in turn.
use Rattle.std.specs.List.{list_any}
use Rattle.std.specs.Prelude.{Bool, List, [], false, true, ℕ, ◌==◌, ◌∷◌, ◌≡◌}
use Rattle.ep_machine.specs.State.{Waiter as Parked}
use Rattle.ep_machine.specs.Waits.{is_marked_at, waits_at}
use Rattle.ep_park.specs.Waiters.{longest_marked}

abbrev pub marked_in_turn : List ℕ → List Parked → List Parked
marked_in_turn [] ws = ws
marked_in_turn (e ∷ es) ws = marked_in_turn es (longest_marked e ws)

-- of the instances that have waiters, the list names the ready ones
abbrev pub NamesReady : (ℕ → Bool) → List Parked → List ℕ → Type 0
NamesReady ready ws es = (e : ℕ) → waits_at ws e ≡ true → ready e ≡ list_any (λ x. e == x) es

-- of the instances that have waiters, and none that is marked, the list names the ready ones
abbrev pub NamesUnmarked : (ℕ → Bool) → List Parked → List ℕ → Type 0
NamesUnmarked ready ws es = (e : ℕ) → waits_at ws e ≡ true → is_marked_at ws e ≡ false → ready e ≡ list_any (λ x. e == x) es
