use Rattle.std.proofs.Common.{arith}
use Rattle.ep_table.proofs.ProcessesLemmas.{lists_same}
use Rattle.ep_table.proofs.processes.reserve.Goals as goal

pub returns-in_err-reserve_in-clause-lists : goal.returns-in_err-reserve_in-clause-lists
returns-in_err-reserve_in-clause-lists g c = lists_same _ _ _ _ (omega (arith, c.len.ensures)) c.index_mut.ensures.value c.reserve_in.ensures.items

pub returns-in_ok-reserve_in-clause-lists : goal.returns-in_ok-reserve_in-clause-lists
returns-in_ok-reserve_in-clause-lists g c = lists_same _ _ _ _ (omega (arith, c.len.ensures)) c.index_mut.ensures.value c.reserve_in.ensures.items
