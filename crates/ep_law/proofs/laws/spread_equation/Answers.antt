use Rattle.ep_law.proofs.SpreadLemmas.{reached_equation}
use Rattle.ep_law.proofs.laws.spread_equation.Goals as goal

pub returns : goal.returns
returns c = record { law = reached_equation }
