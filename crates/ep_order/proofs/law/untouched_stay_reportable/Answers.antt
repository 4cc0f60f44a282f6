use Rattle.ep_order.proofs.EndingLemmas.{untouched_stay_reportable}
use Rattle.ep_order.proofs.law.untouched_stay_reportable.Goals as goal

pub returns : goal.returns
returns c =
    let objects = c.arrivals_are_raised.ensures in
    record { law = untouched_stay_reportable objects.apply objects.close objects.advance c.ends_are_apart.ensures.law }
