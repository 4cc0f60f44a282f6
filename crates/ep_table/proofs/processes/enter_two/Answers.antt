use Rattle.std.proofs.Common.{arith}
use Rattle.ep_table.specs.Processes.{Process, entered}
use Rattle.ep_table.proofs.ProcessesLemmas.{lists_write}
use Rattle.ep_table.proofs.processes.enter_two.Goals as goal

pub returns-then-at-len : goal.returns-then-at-len
returns-then-at-len g c = lists_write (λ (p : Process). entered (entered p c.args.first) c.args.second) _ _ _ _ (omega (arith, c.len.ensures)) c.index_mut.ensures.value c.enter_two_in.ensures
