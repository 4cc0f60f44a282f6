use Rattle.ep_order.proofs.OrderLemmas.{first_are_fair}
use Rattle.ep_order.proofs.law.first_are_fair.Goals as goal

pub returns : goal.returns
returns c = record { law = first_are_fair }
