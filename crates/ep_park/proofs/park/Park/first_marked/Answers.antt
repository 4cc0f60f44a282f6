use Rattle.std.proofs.Common.{ap, ◌∙◌}
use Rattle.std.specs.List.{find}
use Rattle.std.specs.Option.{option_map}
use Rattle.std.specs.Prelude.{List}
use Rattle.ep_machine.specs.State.{Waiter as Parked}
use Rattle.ep_park.proofs.park.Park.first_marked.Goals as goal

pub returns : goal.returns
returns g c = c.first_marked.ensures ∙ ap (λ (ws : List Parked). option_map (λ (w : Parked). w.caller) (find (λ w. w.marked) ws)) c.self.view_is
