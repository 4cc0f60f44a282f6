use Rattle.ep_law.proofs.GraphLemmas.{exclusive_targets}
use Rattle.ep_law.proofs.laws.exclusive_ones_are_apart.Goals as goal

pub returns : goal.returns
returns c = record { law = exclusive_targets }
