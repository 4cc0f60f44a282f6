use Rattle.ep_orders.specs.Place.{may_go}
use Rattle.ep_orders.specs.Course.{place_of, world_of}
use Rattle.ep_orders.proofs.WaysLemmas.{others_more}
use Rattle.ep_orders.proofs.course.Course.add_others.Goals as goal

pub loop-number-preserved : goal.loop-number-preserved
loop-number-preserved g c =
    let may = may_go (world_of g.K.Kernel.bounds c.args.self.now) (place_of g.K.Kernel.state c.args.self.now) c.args.moment in
    others_more may c.args.self.now.last c.loop-number.number _ _ _ c.loop-number.invariant c.in_ok-add_other.ensures
