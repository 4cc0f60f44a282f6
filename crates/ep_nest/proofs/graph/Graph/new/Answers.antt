use Rattle.ep_nest.proofs.DepthLemmas.{deep_none}
use Rattle.ep_nest.proofs.KeptLemmas.{kept_none}
use Rattle.ep_nest.proofs.graph.Graph.new.Goals as goal

pub invariant_of-result : goal.invariant_of-result
invariant_of-result g c = record {
  kept = kept_none c.new.result c.new-2.result c.new.ensures c.new-2.ensures;
  deep = deep_none c.new.result c.new-3.result c.new.ensures;
}
