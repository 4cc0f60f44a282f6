use Rattle.ep_kernel.proofs.ChooseLemmas.{Finds}
use Rattle.ep_kernel.specs.Asked.{Knows}
use Rattle.ep_kernel.proofs.choose.choose.Given as goal
use Rattle.ep_ready.specs.ReadyLists.{list_at}

abbrev pub invariant-loop-id : goal.invariant-loop-id
invariant-loop-id l = record {
  finds : Finds l.parts (list_at l.lists l.fn.instance.0) l.fn.most l.chosen.items l.walked l.id-iterator;
  knows : Knows l.parts l.asked;
}
