use Rattle.std.proofs.Common.{length, ◌-◌, ◌<◌, ◌≤◌}
use Rattle.ep_names.specs.Numbers.{AreMarked, AreSound, AreTaken, is_taken}
use Rattle.ep_names.proofs.numbers.next_free.Given as goal

abbrev pub invariant-loop-at : goal.invariant-loop-at
invariant-loop-at g l = record {
  reached : 32768 ≤ l.at;
  within : l.at ≤ 61000;
  below : AreTaken (is_taken l.owners.entries) 32768 l.at;
  sound : AreSound (is_taken l.owners.entries) l.marks.items;
  behind : AreMarked l.marks.items l.at;
  room : l.at < 61000 → 221 ≤ length l.marks.items;
}

abbrev pub decreases-loop-at : goal.decreases-loop-at
decreases-loop-at g l = 61000 - l.at
