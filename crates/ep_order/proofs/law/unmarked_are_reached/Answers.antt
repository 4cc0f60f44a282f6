use Rattle.ep_order.proofs.MarkLemmas.{unmarked_are_reached}
use Rattle.ep_order.proofs.law.unmarked_are_reached.Goals as goal

pub returns : goal.returns
returns c =
    let objects = c.arrivals_are_raised.ensures in
    record { law = unmarked_are_reached objects.apply objects.close objects.advance }
