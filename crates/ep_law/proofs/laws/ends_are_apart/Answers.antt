use Rattle.ep_law.proofs.BeginningLemmas.{ends_are_apart}
use Rattle.ep_law.proofs.laws.ends_are_apart.Goals as goal

pub returns : goal.returns
returns c =
    let objects = c.arrivals_are_raised.ensures in
    record { law = ends_are_apart objects.apply objects.close objects.advance }
