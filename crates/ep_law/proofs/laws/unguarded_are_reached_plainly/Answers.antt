use Rattle.ep_law.proofs.GuardLemmas.{unguarded_spread}
use Rattle.ep_law.proofs.laws.unguarded_are_reached_plainly.Goals as goal

pub returns : goal.returns
returns c = record { law = unguarded_spread }
