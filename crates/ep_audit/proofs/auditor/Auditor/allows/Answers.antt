use Rattle.std.proofs.lemmas.Result.{IfOk-weaker}
use Rattle.ep_audit.proofs.AuditorLemmas.{judges, made_before, taken_out}
use Rattle.ep_audit.proofs.auditor.Auditor.allows.Goals as goal

pub returns-clause-judges : goal.returns-clause-judges
returns-clause-judges c =
    let mid = c.take_many_out.new.self in
    IfOk-weaker c.follow.result _ _ (λ goes h limits records p.
    judges limits records mid (record { kernel = c.follow.new.kernel; out = mid.out; room = _; last = _ }) c.args.next.now goes
    (taken_out limits records c.args.self.now mid c.take_many_out.ensures.limits c.take_many_out.ensures.past p) c.follow.ensures.limits h) c.follow.ensures.goes

pub returns-clause-made : goal.returns-clause-made
returns-clause-made c =
    let mid = c.take_many_out.new.self in
    IfOk-weaker c.follow.result _ _ (λ goes h wrong.
    made_before c.args.self.now.kernel mid.kernel c.args.next.now c.follow.new.kernel.past c.take_many_out.ensures.limits c.take_many_out.ensures.past (h wrong)) c.follow.ensures.made
