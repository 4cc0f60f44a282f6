use Rattle.std.proofs.Common.{length, ◌≡◌}
use Rattle.ep_interest.specs.Exclusive.{exclusive_of}
use Rattle.ep_interest.proofs.entries.ExclusiveWatchersIterator.next.Given as goal

abbrev pub invariant-loop-id : goal.invariant-loop-id
invariant-loop-id g l = exclusive_of l.self-inside.watchers ≡ exclusive_of l.initial.self-inside.watchers

abbrev pub decreases-loop-id : goal.decreases-loop-id
decreases-loop-id g l = length l.self-inside.watchers
