use Rattle.ep_law.proofs.StepLemmas.{refused_step}
use Rattle.ep_law.proofs.laws.refusal_changes_nothing.Goals as goal

pub returns : goal.returns
returns c = record { law = refused_step }
