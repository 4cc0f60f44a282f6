use Rattle.std.proofs.Common.{drop, map}
use Rattle.ep_table.specs.Counting.{numbers}
use Rattle.ep_table.specs.Flagged.{closing}
use Rattle.ep_table.proofs.NamesLemmas.{Lowering}
use Rattle.ep_table.proofs.names.drop_names.Given as goal

abbrev pub invariant-loop-slot : goal.invariant-loop-slot
invariant-loop-slot g l = Lowering l.fn.store l.store (numbers l.fn.store.keys (map (closing l.every) l.slots)) (numbers l.fn.store.keys (map (closing l.every) (drop l.slot-index l.slots)))
