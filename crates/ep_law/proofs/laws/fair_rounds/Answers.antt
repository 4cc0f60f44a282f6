use Rattle.ep_law.proofs.FairRoundsLemmas.{fair_rounds}
use Rattle.ep_law.proofs.laws.fair_rounds.Goals as goal

pub returns : goal.returns
returns c = record { law = fair_rounds }
