use Rattle.std.proofs.Common.{arith}
use Rattle.ep_table.specs.Processes.{kept_in}
use Rattle.ep_table.proofs.ProcessesLemmas.{lists_write}
use Rattle.ep_table.proofs.processes.close_flagged.Goals as goal

pub returns-then-at-len : goal.returns-then-at-len
returns-then-at-len g c = lists_write kept_in _ _ _ _ (omega (arith, c.len.ensures)) c.index_mut.ensures.value c.close_flagged_in.ensures
