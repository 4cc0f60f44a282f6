use Rattle.ep_law.proofs.StepLemmas.{determined}
use Rattle.ep_law.proofs.laws.determined.Goals as goal

pub returns : goal.returns
returns c = record { law = determined }
