use Rattle.ep_order.proofs.AboveLemmas.{guarded_is_above}
use Rattle.ep_order.proofs.law.guarded_is_above.Goals as goal

pub returns : goal.returns
returns c = record { law = guarded_is_above }
