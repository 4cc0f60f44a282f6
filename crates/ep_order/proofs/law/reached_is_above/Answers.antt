use Rattle.ep_order.proofs.ReachLemmas.{all_reached}
use Rattle.ep_order.proofs.law.reached_is_above.Goals as goal

pub returns : goal.returns
returns c = record { law = all_reached }
