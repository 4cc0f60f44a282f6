use Rattle.ep_order.proofs.OrderLemmas.{stays_fair}
use Rattle.ep_order.proofs.law.stays_fair.Goals as goal

pub returns : goal.returns
returns c = record { law = stays_fair }
