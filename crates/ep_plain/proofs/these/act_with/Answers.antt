use Rattle.std.proofs.lemmas.Result.{IfOk-weaker}
use Rattle.ep_plain.proofs.ActWithLemmas.{does_always}
use Rattle.ep_plain.proofs.these.act_with.Goals as goal

pub returns-in-None-clause-ok : goal.returns-in-None-clause-ok
returns-in-None-clause-ok c =
    rw c.in-None.is (IfOk-weaker c.act.result _ _ (λ outcome does. does_always c.args.request.step c.args.request.caller.0 c.args.event.now outcome c.args.parts.now c.act.new.parts does) c.act.ensures.ok)
