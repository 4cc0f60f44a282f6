use Rattle.std.proofs.Common.{◌≡◌}
use Rattle.std.specs.List.{find}
use Rattle.std.specs.Option.{option_map}
use Rattle.ep_machine.specs.State.{Waiter as Parked}
use Rattle.ep_park.specs.Queue.{in_turn}
use Rattle.ep_park.specs.Waiters.{listed}
use Rattle.ep_park.proofs.queue.first_marked.Given as goal

abbrev pub invariant-loop-turn : goal.invariant-loop-turn
invariant-loop-turn g l =
    option_map (λ (w : Parked). w.caller) (find (λ w. w.marked) (listed (in_turn l.turn-iterator))) ≡ option_map (λ (w : Parked). w.caller) (find (λ w. w.marked) (listed (in_turn l.turns.entries)))
