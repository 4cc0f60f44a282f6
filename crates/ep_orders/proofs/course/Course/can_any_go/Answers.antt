use Rattle.std.proofs.Common.{◌∙◌, ap, arith, length, rules, sym}
use Rattle.ep_orders.specs.Place.{can_go}
use Rattle.ep_orders.specs.Course.{place_of, world_of}
use Rattle.ep_orders.proofs.ListLemmas.{any_from, any_more}
use Rattle.ep_orders.proofs.course.Course.can_any_go.Goals as goal

pub returns-then-can_go : goal.returns-then-can_go
returns-then-can_go g c =
    let can = can_go (world_of g.K.Kernel.bounds c.args.self.now) (place_of g.K.Kernel.state c.args.self.now) in
    sym (any_from can 0 (length c.args.self.now.scenario.now.lines.items) c.loop-number.number (search rules)
    (ap can (omega arith) ∙ (sym c.can_go.ensures ∙ c.if-can_go.true)))

pub loop-number-preserved : goal.loop-number-preserved
loop-number-preserved g c =
    any_more (can_go (world_of g.K.Kernel.bounds c.args.self.now) (place_of g.K.Kernel.state c.args.self.now)) c.loop-number.number c.loop-number.invariant (sym c.can_go.ensures ∙ c.if-can_go.false)
