use Rattle.std.proofs.Common.{◌-◌}
use Rattle.ep_climb.proofs.AscentLemmas.{GoesUp}
use Rattle.ep_climb.specs.Reach.{edges_along}
use Rattle.ep_climb.proofs.ascending.ascend.Given as goal

abbrev pub invariant-loop-done : goal.invariant-loop-done
invariant-loop-done l = GoesUp (edges_along l.along l.graph) l.fn.instance.0 l.fn.reached l.done l.reached

abbrev pub decreases-loop-done : goal.decreases-loop-done
decreases-loop-done l = l.reached.room - l.done
