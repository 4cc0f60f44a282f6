use Rattle.ep_law.proofs.NamedLivesLemmas.{named_lives}
use Rattle.ep_law.proofs.laws.named_lives.Goals as goal

pub returns : goal.returns
returns c = record { law = named_lives }
