use Rattle.std.proofs.Common.{replicate, vec_len, ℕ, ◌+◌, ◌++◌, ◌-◌, ◌≡◌}
use Rattle.ep_nest.proofs.depths.widen.Given as goal

abbrev pub invariant-loop-depths : goal.invariant-loop-depths
invariant-loop-depths g l = (n : ℕ) × (l.depths.items ≡ l.fn.depths.items ++ replicate n 0)

abbrev pub decreases-loop-depths : goal.decreases-loop-depths
decreases-loop-depths g l = l.key + 1 - vec_len l.depths
