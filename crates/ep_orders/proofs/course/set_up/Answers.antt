use Rattle.std.proofs.Common.{◌∙◌}
use Rattle.ep_orders.proofs.CourseLemmas.{sets_up_next}
use Rattle.ep_orders.proofs.course.set_up.Goals as goal

pub loop-asked-preserved : goal.loop-asked-preserved
loop-asked-preserved g c =
    let i = c.loop-asked.invariant in
    let e = c.in_ok-ask.ensures in
    let h = sets_up_next (g.K.Kernel.bounds c.args.kernel.now) _ (g.K.Kernel.state c.args.kernel.now) c.args.setup.now c.loop-asked.asked-index c.asked-item.result c.in_ok-event.event i.0 _ _ (g.K.Kernel.past c.args.kernel.now) _ _ c.loop-asked-test.true c.asked-item.is c.in_ok-event.ensures.ok i.2 i.1 i.4 e.enters in
    (h.0, h.1, e.limits ∙ i.2, e.taken ∙ i.3, h.2)
