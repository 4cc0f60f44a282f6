use Rattle.std.proofs.Common.{ap, is_some, ◌∙◌}
use Rattle.std.specs.List.{list_any}
use Rattle.ep_park.proofs.ViewLemmas.{present}
use Rattle.ep_park.specs.Waiters.{is_caller}
use Rattle.ep_park.proofs.park.Park.is_parked.Goals as goal

pub returns : goal.returns
returns g c =
    c.is_some.ensures
    ∙ (ap is_some c.get.ensures.value
    ∙ (present c.args.caller.0 c.self.inside.queue ∙ ap (list_any (is_caller c.args.caller.0)) c.self.view_is))
