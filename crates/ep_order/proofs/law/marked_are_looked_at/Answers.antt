use Rattle.ep_order.proofs.LookLemmas.{marked_are_looked_at}
use Rattle.ep_order.proofs.law.marked_are_looked_at.Goals as goal

pub returns : goal.returns
returns c =
    let objects = c.arrivals_are_raised.ensures in
    record { law = marked_are_looked_at objects.apply objects.close objects.advance }
