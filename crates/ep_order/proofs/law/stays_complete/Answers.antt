use Rattle.ep_order.proofs.OrderLemmas.{stays_complete}
use Rattle.ep_order.proofs.law.stays_complete.Goals as goal

pub returns : goal.returns
returns c = record { law = stays_complete }
