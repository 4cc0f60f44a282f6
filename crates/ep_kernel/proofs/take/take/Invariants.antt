use Rattle.ep_kernel.specs.Take.{SetsList, key_stays, taken}
use Rattle.ep_kernel.proofs.take.take.Given as goal
use Rattle.ep_ready.specs.ReadyLists.{list_at}

abbrev pub invariant-loop : goal.invariant-loop
invariant-loop l = SetsList l.fn.lists l.lists l.fn.instance.0 (taken (key_stays l.fn.step l.interest) l.counter (list_at l.fn.lists l.fn.instance.0))
