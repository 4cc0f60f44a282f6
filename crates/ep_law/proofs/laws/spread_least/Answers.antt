use Rattle.ep_law.proofs.SpreadLemmas.{least}
use Rattle.ep_law.proofs.laws.spread_least.Goals as goal

pub returns : goal.returns
returns c = record { law = least }
