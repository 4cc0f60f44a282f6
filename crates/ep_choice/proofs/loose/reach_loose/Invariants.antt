use Rattle.std.proofs.Common.{◌≡◌, take}
use Rattle.ep_choice.specs.Lost.{AreAbove}
use Rattle.ep_climb.specs.Reach.{IsClosed}
use Rattle.ep_nest.specs.Links.{edges}
use Rattle.ep_choice.proofs.loose.reach_loose.Given as goal

abbrev pub invariant-loop-index : goal.invariant-loop-index
invariant-loop-index l = record {
  room : l.reached.room ≡ l.fn.reached.room;
  closed : IsClosed (edges l.parts.graph) l.reached.reached;
  above : AreAbove (edges l.parts.graph) (take l.index l.lost.reached) l.reached.reached;
}
