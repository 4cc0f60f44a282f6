use Rattle.std.proofs.Common.{take}
use Rattle.ep_climb.proofs.WalkLemmas.{Walked}
use Rattle.ep_climb.specs.Reach.{open_edges}
use Rattle.ep_climb.proofs.reaching.walk.Given as goal

abbrev pub invariant-loop-id : goal.invariant-loop-id
invariant-loop-id l = Walked l.fn.step l.interest (open_edges l.interest l.graph) (take l.id-index l.id-items) l.fn.reached l.reached
