use Rattle.std.proofs.Common.{IfOk, subst, sym}
use Rattle.ep_base.specs.declared.answer.Answer.{Answer}
use Rattle.ep_base.specs.declared.call.Call.{Call}
use Rattle.ep_calls.specs.TableCall.{called}
use Rattle.ep_table.specs.Value.{Does}
use Rattle.ep_calls.proofs.table_call.answer_of.Goals as goal

pub returns-in-Dup2-clause-ok : goal.returns-in-Dup2-clause-ok
returns-in-Dup2-clause-ok c =
    let old = c.args.tables.now in
    subst (λ (k : Call). IfOk c.dup2.result (λ answer. Does (called old c.args.waiters.now c.args.pid.0 k) answer old c.dup2.new.self)) (sym c.in-Dup2.is) c.dup2.ensures.ok
