use Rattle.std.proofs.Common.{length, ◌≡◌}
use Rattle.ep_nest.proofs.PurgeLemmas.{staying}
use Rattle.ep_nest.proofs.graph.cut.Given as goal

abbrev pub invariant-loop-link : goal.invariant-loop-link
invariant-loop-link g l = staying l.way l.instance.0 l.links ≡ staying l.way l.instance.0 l.initial.links

abbrev pub decreases-loop-link : goal.decreases-loop-link
decreases-loop-link g l = length l.links
