use Rattle.std.proofs.Common.{length}
use Rattle.ep_calls.specs.Burial.{Buries}
use Rattle.ep_calls.specs.Climb.{KeepsLinks}
use Rattle.ep_calls.specs.Ids.{KeepsIds}
use Rattle.ep_calls.proofs.bury.end_each.Given as goal

abbrev pub invariant-loop-dead : goal.invariant-loop-dead
invariant-loop-dead l = Buries l.step l.fn.tables l.fn.interest l.tables l.interest × KeepsLinks l.fn.interest l.fn.graph l.interest l.graph × KeepsIds l.fn.interest l.interest

abbrev pub decreases-loop-dead : goal.decreases-loop-dead
decreases-loop-dead l = length l.tables.dying
