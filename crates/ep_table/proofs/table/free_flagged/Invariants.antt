use Rattle.std.proofs.Common.{drop, map, take, ◌++◌, ◌≡◌}
use Rattle.ep_table.specs.Flagged.{kept}
use Rattle.ep_table.proofs.table.free_flagged.Given as goal

abbrev pub invariant-loop-number : goal.invariant-loop-number
invariant-loop-number l = l.slots ≡ map kept (take l.number l.fn.slots) ++ drop l.number l.fn.slots
