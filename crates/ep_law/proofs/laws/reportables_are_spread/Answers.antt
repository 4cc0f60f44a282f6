use Rattle.ep_law.proofs.BeginningLemmas.{reportables_are_spread}
use Rattle.ep_law.proofs.laws.reportables_are_spread.Goals as goal

pub returns : goal.returns
returns c =
    let objects = c.arrivals_are_raised.ensures in
    record { law = reportables_are_spread objects.apply objects.close objects.advance }
