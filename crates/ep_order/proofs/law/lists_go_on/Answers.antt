use Rattle.ep_order.proofs.EventLemmas.{lists_go_on}
use Rattle.ep_order.proofs.law.lists_go_on.Goals as goal

pub returns : goal.returns
returns c =
    let objects = c.arrivals_are_raised.ensures in
    record { law = lists_go_on objects.apply objects.close objects.advance }
