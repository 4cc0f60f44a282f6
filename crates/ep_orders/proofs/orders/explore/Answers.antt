use Rattle.std.proofs.Common.{subst}
use Rattle.std.proofs.lemmas.Result.{IfOk-weaker}
use Rattle.ep_base.specs.Limits.{Limits}
use Rattle.ep_machine.specs.State.{opening}
use Rattle.ep_orders.specs.Orders.{SetsUp}
use Rattle.ep_orders.proofs.EveryLemmas.{explores}
use Rattle.ep_orders.proofs.orders.explore.Goals as goal

pub returns : goal.returns
returns g c =
    let e = c.in-Ok-begin.ensures in
    let up = subst (λ (l : Limits). SetsUp l opening c.args.scenario.now.setup.items (g.K.Kernel.past c.in-Ok-begin.course.kernel) (g.K.Kernel.state c.in-Ok-begin.course.kernel)) c.in-Ok.ensures.limits e.setup in
    IfOk-weaker c.run_all-end.result _ _ (λ whole h.
    explores g.K.Kernel.past g.M.Makes.limits g.V.Visitor.notes _ c.run_all-end.new.runs c.args.most whole (g.K.Kernel.state c.in-Ok-begin.course.kernel) up
    h.0 h.1 h.2 h.3 h.4) c.run_all-end.ensures.made
