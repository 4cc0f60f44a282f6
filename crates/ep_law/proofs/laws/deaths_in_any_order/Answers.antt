use Rattle.ep_law.proofs.DeathLemmas.{same_dead}
use Rattle.ep_law.proofs.laws.deaths_in_any_order.Goals as goal

pub returns : goal.returns
returns c = record { law = same_dead }
