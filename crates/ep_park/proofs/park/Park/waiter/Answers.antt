use Rattle.std.proofs.Common.{ap, ◌∙◌}
use Rattle.std.specs.List.{find}
use Rattle.std.specs.Option.{option_map}
use Rattle.ep_park.proofs.ViewLemmas.{found}
use Rattle.ep_park.specs.Waiters.{is_caller, parked}
use Rattle.ep_park.proofs.park.Park.waiter.Goals as goal

pub returns : goal.returns
returns g c =
    ap (option_map (parked c.args.caller.0)) c.get.ensures.value
    ∙ (found c.args.caller.0 c.self.inside.queue ∙ ap (find (is_caller c.args.caller.0)) c.self.view_is)
