use Rattle.ep_order.proofs.AboveLemmas.{above_is_above}
use Rattle.ep_order.proofs.law.above_is_above.Goals as goal

pub returns : goal.returns
returns c = record { law = above_is_above }
