use Rattle.std.proofs.Common.{◌≡◌, ◌≤◌, ◌∙◌, List, ap, arith, length, rules, subst, sym}
use Rattle.ep_base.specs.Limits.{Limits}
use Rattle.ep_paths.specs.declared.choice.Choice.{Choice}
use Rattle.ep_machine.specs.State.{opening}
use Rattle.ep_orders.specs.Explorer.{world_in}
use Rattle.ep_orders.specs.Orders.{HasEnded, SetsUp}
use Rattle.ep_orders.specs.Course.{GoesOn, Walked, place_of, world_of}
use Rattle.ep_orders.specs.declared.course.Course.{Course}
use Rattle.ep_orders.proofs.OrderLemmas.{at_first, one_more, walked, with_limits}
use Rattle.ep_orders.proofs.explorer.Explorer.walk.Goals as goal

pub loop-place-init : goal.loop-place-init
loop-place-init g c =
    let e = c.in_ok-course.ensures in
    let self = c.args.self.now in
    let limits = c.in_ok-kernel.ensures.limits in
    let world : world_of g.K.Kernel.bounds c.in_ok-course.course ≡ world_in g.M.Makes.limits c.args.self.now =
    e.world ∙ ap (with_limits c.args.self.now.rules c.args.self.now.scenario.now.lines.items) limits in (
      world,
      e.scenario,
      e.taken,
      at_first (world_in g.M.Makes.limits c.args.self.now) (world_of g.K.Kernel.bounds c.in_ok-course.course) c.args.self.now.scenario.now.setup.items c.args.path.now.items
          c.in_ok-course.course.turns.items (g.K.Kernel.past c.in_ok-course.course.kernel) (g.K.Kernel.state c.in_ok-course.course.kernel) (place_of g.K.Kernel.state c.in_ok-course.course)
          (subst (λ (l : Limits). SetsUp l opening c.args.self.now.scenario.now.setup.items (g.K.Kernel.past c.in_ok-course.course.kernel) (g.K.Kernel.state c.in_ok-course.course.kernel)) limits e.setup)
          e.turns e.place world,
    )

pub loop-place-preserved : goal.loop-place-preserved
loop-place-preserved g c =
    let i = c.loop-place.invariant in
    let e = c.in_ok-more.ensures in (
      e.world ∙ i.0,
      e.scenario ∙ i.1,
      e.taken ∙ i.2,
      one_more (world_in g.M.Makes.limits c.args.self.now) c.args.self.now.scenario.now.setup.items c.args.path.now.items c.loop-place.path.items c.go_on.new.path.items
          c.loop-place.course.turns.items c.go_on.new.self.turns.items (g.K.Kernel.past c.loop-place.course.kernel) (g.K.Kernel.past c.go_on.new.self.kernel) c.loop-place.place
          (place_of g.K.Kernel.state c.loop-place.course) (place_of g.K.Kernel.state c.go_on.new.self) i.3
          (subst (λ z. GoesOn z (place_of g.K.Kernel.state c.loop-place.course) (place_of g.K.Kernel.state c.go_on.new.self) c.loop-place.path.items c.go_on.new.path.items c.loop-place.place
          c.loop-place.course.turns.items c.go_on.new.self.turns.items (g.K.Kernel.past c.loop-place.course.kernel) (g.K.Kernel.past c.go_on.new.self.kernel)) i.0 (e.turn c.if-more.true)),
    )

pub go_on-requires : goal.go_on-requires
go_on-requires g c = let within = c.loop-place.invariant.3.within in search (rules, within)

pub returns-in-loop-place-clause-scenario : goal.returns-in-loop-place-clause-scenario
returns-in-loop-place-clause-scenario g c = c.in_ok-more.ensures.scenario ∙ c.loop-place.invariant.1

pub returns-in-loop-place-clause-world : goal.returns-in-loop-place-clause-world
returns-in-loop-place-clause-world g c = c.in_ok-more.ensures.world ∙ c.loop-place.invariant.0

pub returns-in-loop-place-clause-walked : goal.returns-in-loop-place-clause-walked
returns-in-loop-place-clause-walked g c =
    let i = c.loop-place.invariant in
    let e = c.in_ok-more.ensures in
    let kept : c.go_on.new.self ≡ c.loop-place.course = e.kept c.if-more.false in
    let path_is : c.go_on.new.path.items ≡ c.loop-place.path.items = e.path c.if-more.false in
    let reached : length c.go_on.new.path.items ≤ c.loop-place.place = search rules in
    let whole : c.loop-place.place ≡ length c.loop-place.path.items = omega (arith, reached, ap length path_is, i.3.within) in
    let done = walked (world_in g.M.Makes.limits c.args.self.now) c.args.self.now.scenario.now.setup.items c.args.path.now.items c.loop-place.path.items c.loop-place.course.turns.items
    (g.K.Kernel.past c.loop-place.course.kernel) c.loop-place.place (place_of g.K.Kernel.state c.loop-place.course) i.3
    (subst (λ z. HasEnded z (place_of g.K.Kernel.state c.loop-place.course)) i.0 (e.end c.if-more.false)) whole in
    subst (λ (p : List Choice). Walked (world_in g.M.Makes.limits c.args.self.now) c.args.self.now.scenario.now.setup.items c.args.path.now.items p
    c.go_on.new.self.turns.items (g.K.Kernel.past c.go_on.new.self.kernel)) (sym path_is)
    (subst (λ (k : Course g.row.K.Denot). Walked (world_in g.M.Makes.limits c.args.self.now) c.args.self.now.scenario.now.setup.items c.args.path.now.items c.loop-place.path.items
    k.turns.items (g.K.Kernel.past k.kernel)) (sym kept) done)

pub returns-in-loop-place-clause-taken : goal.returns-in-loop-place-clause-taken
returns-in-loop-place-clause-taken g c = c.in_ok-more.ensures.taken ∙ c.loop-place.invariant.2
