use Rattle.std.proofs.Common.{arith}
use Rattle.ep_table.specs.Processes.{Process, left}
use Rattle.ep_table.proofs.ProcessesLemmas.{lists_write}
use Rattle.ep_table.proofs.processes.leave.Goals as goal

pub returns-then-at-len : goal.returns-then-at-len
returns-then-at-len g c = lists_write (λ (p : Process). left p c.args.number) _ _ _ _ (omega (arith, c.len.ensures)) c.index_mut.ensures.value c.leave_in.ensures
