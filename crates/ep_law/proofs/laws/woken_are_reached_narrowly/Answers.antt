use Rattle.ep_law.proofs.NarrowLemmas.{narrowed_law}
use Rattle.ep_law.proofs.laws.woken_are_reached_narrowly.Goals as goal

pub returns : goal.returns
returns c = record { law = narrowed_law }
