use Rattle.ep_order.proofs.LeftLemmas.{leaves_by_resuming}
use Rattle.ep_order.proofs.law.leaves_by_resuming.Goals as goal

pub returns : goal.returns
returns c = record { law = leaves_by_resuming }
