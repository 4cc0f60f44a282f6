use Rattle.std.proofs.Common.{length}
use Rattle.ep_kernel.proofs.readiness.+is_ready_within.Given as goal
use Rattle.ep_kernel.specs.Asked.{Knows}
use Rattle.ep_kernel.specs.Readiness.{Prunes}
use Rattle.ep_ready.specs.ReadyLists.{list_at}

abbrev pub decreases-is_ready_within : goal.decreases-is_ready_within
decreases-is_ready_within l = l.links

abbrev pub invariant-loop-id : goal.invariant-loop-id
invariant-loop-id l = record {
  knows : Knows l.parts l.asked;
  prunes : Prunes l.initial.asked.hopes l.asked.hopes;
}

abbrev pub decreases-loop-id : goal.decreases-loop-id
decreases-loop-id l = length (list_at l.asked.hopes l.fn.instance.0)
