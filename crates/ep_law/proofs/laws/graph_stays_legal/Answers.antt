use Rattle.ep_law.proofs.GraphLemmas.{graph_stays_legal}
use Rattle.ep_law.proofs.laws.graph_stays_legal.Goals as goal

pub returns : goal.returns
returns c = record { law = graph_stays_legal }
