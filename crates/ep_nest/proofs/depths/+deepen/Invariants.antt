use Rattle.std.proofs.Common.{Contains}
use Rattle.std.specs.List.{AllByRecursion}
use Rattle.ep_nest.proofs.DepthLemmas.{IsDeepening}
use Rattle.ep_nest.specs.Links.{along, ends, turned}
use Rattle.ep_nest.proofs.depths.+deepen.Given as goal

abbrev pub decreases-deepen : goal.decreases-deepen
decreases-deepen g l = l.left

abbrev pub invariant-loop-link : goal.invariant-loop-link
invariant-loop-link g l = record {
  deep : IsDeepening (along l.way l.links) l.fn.depths l.depths l.instance.0 l.least (ends (turned l.way) l.link-iterator);
  there : AllByRecursion (λ k. Contains (along (turned l.way) l.links) (l.instance.0, k)) (ends (turned l.way) l.link-iterator);
}
