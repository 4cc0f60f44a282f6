use Rattle.ep_order.proofs.MarkLemmas.{unmarked_are_woken}
use Rattle.ep_order.proofs.law.unmarked_are_woken.Goals as goal

pub returns : goal.returns
returns c =
    let objects = c.arrivals_are_raised.ensures in
    record { law = unmarked_are_woken objects.apply objects.close objects.advance }
