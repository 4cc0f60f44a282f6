use Rattle.std.proofs.Common.{length, ◌-◌, ◌≡◌, ◌≤◌, ◌++◌, map, take, drop}
use Rattle.ep_exports.specs.Watches.{flat_watch}
use Rattle.ep_exports.proofs.watches.put_watches.Given as goal

abbrev pub invariant-loop-at : goal.invariant-loop-at
invariant-loop-at l = (l.at ≤ length l.told) × (l.at ≤ length l.initial.room) × (l.told ≡ l.initial.told)
    × (l.room ≡ take l.at (map (flat_watch l.past) l.told) ++ drop l.at l.initial.room)

abbrev pub decreases-loop-at : goal.decreases-loop-at
decreases-loop-at l = length l.told - l.at
