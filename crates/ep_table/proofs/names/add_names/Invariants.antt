use Rattle.std.proofs.Common.{drop, ◌+◌, ◌≤◌}
use Rattle.ep_table.specs.Counting.{numbers}
use Rattle.ep_table.proofs.NamesLemmas.{Raising}
use Rattle.ep_table.proofs.names.add_names.Given as goal

abbrev pub invariant-loop-slot : goal.invariant-loop-slot
invariant-loop-slot g l = Raising l.fn.store l.store (numbers l.fn.store.keys l.slots) (numbers l.fn.store.keys (drop l.slot-index l.slots)) × (l.store.named ≤ l.fn.store.named + l.slot-index)
