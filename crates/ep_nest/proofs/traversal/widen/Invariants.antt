use Rattle.std.proofs.Common.{false, length, replicate, vec_len, ℕ, ◌+◌, ◌++◌, ◌-◌, ◌<◌, ◌≡◌, ◌≤◌}
use Rattle.ep_nest.proofs.traversal.widen.Given as goal

abbrev pub invariant-loop-marks : goal.invariant-loop-marks
invariant-loop-marks g l = record {
  grown : (n : ℕ) × (l.marks.items ≡ l.fn.marks.items ++ replicate n false);
  few : (n : ℕ) → l.key < n → length l.fn.marks.items ≤ n → length l.marks.items ≤ n;
}

abbrev pub decreases-loop-marks : goal.decreases-loop-marks
decreases-loop-marks g l = l.key + 1 - vec_len l.marks
