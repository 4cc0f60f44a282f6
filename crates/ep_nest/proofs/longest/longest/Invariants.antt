use Rattle.std.proofs.Common.{suc, ℕ, ◌-◌, ◌≤◌}
use Rattle.ep_nest.proofs.LevelLemmas.{AreEnds}
use Rattle.ep_nest.specs.Chains.{LeadsBy}
use Rattle.ep_nest.specs.Links.{along, keys}
use Rattle.ep_nest.specs.Marks.{AreNoted}
use Rattle.ep_nest.specs.Traversal.{HasRoom}
use Rattle.ep_nest.proofs.longest.longest.Given as goal

abbrev pub invariant-loop-length : goal.invariant-loop-length
invariant-loop-length g l = record {
  ends : AreEnds (along l.way l.links) l.fn.start.0 (suc l.length) (keys l.walk.reached.items);
  chain : (y : ℕ) × LeadsBy (along l.way l.links) l.length l.fn.start.0 y;
  few : l.length ≤ 4;
  noted : AreNoted l.walk.marks.items (keys l.walk.reached.items);
  room : HasRoom l.links l.walk;
}

abbrev pub decreases-loop-length : goal.decreases-loop-length
decreases-loop-length g l = 4 - l.length
