use Rattle.std.proofs.Common.{ap, ◌∙◌, is_some}
use Rattle.ep_machine.specs.Waits.{waits_at}
use Rattle.ep_park.proofs.TallyLemmas.{any_tally}
use Rattle.ep_park.specs.Waiters.{listed}
use Rattle.ep_park.proofs.park.Park.has_waiter.Goals as goal

pub returns : goal.returns
returns g c =
    c.contains_key.ensures
    ∙ (ap is_some (c.self.invariant.0.of c.args.instance.0)
    ∙ (any_tally c.args.instance.0 (listed c.self.inside.queue)
    ∙ ap (λ ws. waits_at ws c.args.instance.0) c.self.view_is))
