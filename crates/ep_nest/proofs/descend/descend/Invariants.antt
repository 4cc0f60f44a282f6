use Rattle.std.proofs.Common.{length, vec_len, ◌-◌, ◌≤◌}
use Rattle.ep_nest.proofs.DescentLemmas.{Descends, seen_to}
use Rattle.ep_nest.specs.Links.{keys}
use Rattle.ep_nest.specs.Marks.{AreNoted}
use Rattle.ep_nest.specs.Traversal.{HasRoom}
use Rattle.ep_nest.proofs.descend.descend.Given as goal

abbrev pub invariant-loop-done : goal.invariant-loop-done
invariant-loop-done g l = record {
  descends : Descends l.links l.fn.above.0 (seen_to l.fn.above.0 (keys l.walk.reached.items) l.done) (keys l.walk.reached.items);
  noted : AreNoted l.walk.marks.items (keys l.walk.reached.items);
  within : l.done ≤ vec_len l.walk.reached;
  room : HasRoom l.links l.walk;
}

abbrev pub decreases-loop-done : goal.decreases-loop-done
decreases-loop-done g l = length l.walk.marks.items - l.done
