use Rattle.std.proofs.Common.{ap, ◌∙◌}
use Rattle.std.specs.List.{list_any}
use Rattle.ep_park.proofs.DeadlineLemmas.{first_is_earliest}
use Rattle.ep_park.specs.Deadlines.{awaits_mark}
use Rattle.ep_park.proofs.park.Park.first_deadline.Goals as goal

pub returns : goal.returns
returns g c = λ now.
    first_is_earliest c.self.inside.queue c.self.inside.deadlines c.earliest.result c.len-parked.ensures.unique c.self.invariant.2 c.earliest.ensures now
    ∙ ap (list_any (awaits_mark now)) c.self.view_is
