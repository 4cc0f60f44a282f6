use Rattle.ep_law.proofs.ReadinessLemmas.{ready_equation}
use Rattle.ep_law.proofs.laws.ready_equation.Goals as goal

pub returns : goal.returns
returns c = record { law = ready_equation }
