use Rattle.ep_audit.proofs.KeptLemmas.{keeps_all, took_out}
use Rattle.ep_audit.proofs.auditor.take_out.Goals as goal

pub returns-then-is_err-clause-last : goal.returns-then-is_err-clause-last
returns-then-is_err-clause-last c =
    keeps_all c.history.result.now c.reserve.new.self c.args.kernel.now c.is_empty.result c.is_empty.ensures c.if-is_empty.false c.history.ensures.taken c.history.ensures.past

pub returns-clause-last : goal.returns-clause-last
returns-clause-last c =
    let e = c.swap_history.ensures in
    took_out _ c.swap_history.result c.history.result.now c.swap_history.new.other c.args.kernel.now c.swap_history.new.self c.is_empty.result c.is_empty.ensures
    c.if-is_empty.false c.history.ensures.taken c.history.ensures.past e.before e.out e.taken e.past e.err
