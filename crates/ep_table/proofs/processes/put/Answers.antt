use Rattle.std.proofs.Common.{arith}
use Rattle.ep_table.specs.Processes.{Process, put_at}
use Rattle.ep_table.proofs.ProcessesLemmas.{lists_same, lists_write, on_err}
use Rattle.ep_table.proofs.processes.put.Goals as goal

pub returns-in_err-put_in-clause-err : goal.returns-in_err-put_in-clause-err
returns-in_err-put_in-clause-err g c =
    on_err c.from_residual.result _ (lists_same c.args.processes.now.items c.args.pid.0 c.index_mut.result.now c.put_in.new.process (omega (arith, c.len.ensures)) c.index_mut.ensures.value c.in_err-put_in.ensures.err)

pub returns-in_ok-put_in-clause-ok : goal.returns-in_ok-put_in-clause-ok
returns-in_ok-put_in-clause-ok g c = lists_write (λ (p : Process). put_at p c.args.number c.args.descriptor) _ _ _ _ (omega (arith, c.len.ensures)) c.index_mut.ensures.value c.in_ok-put_in.ensures.ok
