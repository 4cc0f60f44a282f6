use Rattle.std.proofs.Common.{vec_len, ℕ, ◌+◌, ◌-◌, ◌≡◌}
use Rattle.ep_nest.specs.Adjacent.{entries_at}
use Rattle.ep_nest.proofs.adjacent.open.Given as goal

abbrev pub invariant-loop-maps : goal.invariant-loop-maps
invariant-loop-maps g l = (k : ℕ) → entries_at l.maps.items k ≡ entries_at l.fn.maps.items k

abbrev pub decreases-loop-maps : goal.decreases-loop-maps
decreases-loop-maps g l = l.key + 1 - vec_len l.maps
