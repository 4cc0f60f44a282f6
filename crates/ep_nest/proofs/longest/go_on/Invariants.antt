use Rattle.std.proofs.Common.{take, vec_len, ◌-◌, ◌≡◌, ◌≤◌}
use Rattle.ep_nest.proofs.LevelLemmas.{AreReachedFrom}
use Rattle.ep_nest.specs.Links.{keys}
use Rattle.ep_nest.specs.Marks.{AreNoted}
use Rattle.ep_nest.specs.Traversal.{HasRoom}
use Rattle.ep_nest.proofs.longest.go_on.Given as goal

abbrev pub invariant-loop-done : goal.invariant-loop-done
invariant-loop-done g l = record {
  reached : AreReachedFrom l.way l.links (take l.done (keys l.walk.level.items)) (keys l.walk.reached.items);
  level : l.walk.level.items ≡ l.fn.walk.reached.items;
  within : l.done ≤ vec_len l.walk.level;
  noted : AreNoted l.walk.marks.items (keys l.walk.reached.items);
  room : HasRoom l.links l.walk;
}

abbrev pub decreases-loop-done : goal.decreases-loop-done
decreases-loop-done g l = vec_len l.walk.level - l.done
