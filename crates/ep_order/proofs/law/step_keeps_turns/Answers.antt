use Rattle.ep_order.proofs.StepLemmas.{step_keeps_turns}
use Rattle.ep_order.proofs.law.step_keeps_turns.Goals as goal

pub returns : goal.returns
returns c = record { law = step_keeps_turns }
