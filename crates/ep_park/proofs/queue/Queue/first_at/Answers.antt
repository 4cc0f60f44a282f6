use Rattle.std.proofs.Common.{ap, ◌∙◌}
use Rattle.ep_park.proofs.QueueLemmas.{first_of_places}
use Rattle.ep_park.specs.Tallies.{first_at}
use Rattle.ep_park.specs.Waiters.{listed}
use Rattle.ep_park.proofs.queue.Queue.first_at.Goals as goal

pub returns : goal.returns
returns g c =
    let e = c.args.instance.0 in
    let k = c.self.inside in
    first_of_places k.turns.entries k.tickets.entries k.places.entries k.last e c.first_place.result c.self.invariant c.first_place.ensures
    ∙ ap (λ es. first_at e (listed es)) c.self.view_is
