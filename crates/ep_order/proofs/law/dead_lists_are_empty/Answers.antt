use Rattle.ep_order.proofs.EventLemmas.{dead_lists_are_empty}
use Rattle.ep_order.proofs.law.dead_lists_are_empty.Goals as goal

pub returns : goal.returns
returns c = record { law = dead_lists_are_empty }
