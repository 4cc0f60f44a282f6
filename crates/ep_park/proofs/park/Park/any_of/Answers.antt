use Rattle.std.proofs.Common.{ap, ◌∙◌}
use Rattle.std.specs.List.{list_any}
use Rattle.ep_park.proofs.ProcessLemmas.{any_counted_of}
use Rattle.ep_park.specs.Waiters.{is_of}
use Rattle.ep_park.proofs.park.Park.any_of.Goals as goal

pub returns : goal.returns
returns g c =
    c.contains_key.ensures
    ∙ (any_counted_of c.args.process.0 c.self.inside.queue c.self.inside.processes.entries c.self.invariant.1
    ∙ ap (list_any (is_of c.args.process.0)) c.self.view_is)
