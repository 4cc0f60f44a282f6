use Rattle.std.proofs.Common.{◌≡◌, ◌+◌, ◌-◌, ◌≤◌, length, vec_capacity}
use Rattle.ep_walk.specs.Walk.{IsWalk}
use Rattle.ep_walk.proofs.walk.add_marks.Given as goal

abbrev pub invariant-loop-marks : goal.invariant-loop-marks
invariant-loop-marks g l = record {
  sound : IsWalk l.marks.items l.reached.items (vec_capacity l.reached);
  kept : l.reached.items ≡ l.initial.reached.items;
  more : length l.initial.marks.items ≤ length l.marks.items;
}

abbrev pub decreases-loop-marks : goal.decreases-loop-marks
decreases-loop-marks g l = l.instance + 1 - length l.marks.items
