use Rattle.std.proofs.Common.{length, ◌-◌, ◌≡◌, ◌+◌, drop}
use Rattle.ep_machine.specs.Lists.{lowest_free}
use Rattle.ep_table.proofs.table.next_free.Given as goal

abbrev pub invariant-loop-at : goal.invariant-loop-at
invariant-loop-at l = l.at + lowest_free (drop l.at l.slots) ≡ l.from + lowest_free (drop l.from l.slots)

abbrev pub decreases-loop-at : goal.decreases-loop-at
decreases-loop-at l = length l.slots - l.at
