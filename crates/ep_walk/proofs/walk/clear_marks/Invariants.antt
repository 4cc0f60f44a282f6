use Rattle.std.proofs.Common.{◌≡◌, length, vec_capacity}
use Rattle.ep_walk.specs.Walk.{IsWalk}
use Rattle.ep_walk.proofs.walk.clear_marks.Given as goal

abbrev pub invariant-loop-instance : goal.invariant-loop-instance
invariant-loop-instance g l = record {
  sound : IsWalk l.marks.items l.reached.items (vec_capacity l.reached);
  len : length l.marks.items ≡ length l.initial.marks.items;
}

abbrev pub decreases-loop-instance : goal.decreases-loop-instance
decreases-loop-instance g l = length l.reached.items
