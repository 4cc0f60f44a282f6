use Rattle.ep_order.proofs.PickLemmas.{first_are_pick}
use Rattle.ep_order.proofs.law.first_are_pick.Goals as goal

pub returns : goal.returns
returns c = record { law = first_are_pick }
