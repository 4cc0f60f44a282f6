use Rattle.std.proofs.Common.{◌-◌, ◌≤◌}
use Rattle.ep_names.specs.Numbers.{AreTaken, is_taken}
use Rattle.ep_names.proofs.numbers.first_free.Given as goal

abbrev pub invariant-loop-at : goal.invariant-loop-at
invariant-loop-at g l = record {
  reached : l.from ≤ l.at;
  within : l.at ≤ l.end;
  below : AreTaken (is_taken l.owners.entries) l.from l.at;
}

abbrev pub decreases-loop-at : goal.decreases-loop-at
decreases-loop-at g l = l.end - l.at
