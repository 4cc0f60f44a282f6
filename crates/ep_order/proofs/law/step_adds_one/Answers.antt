use Rattle.ep_order.proofs.StepLemmas.{step_adds_one}
use Rattle.ep_order.proofs.law.step_adds_one.Goals as goal

pub returns : goal.returns
returns c = record { law = step_adds_one }
