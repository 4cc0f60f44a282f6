use Rattle.std.proofs.Common.{◌≡◌, ◌+◌, ◌-◌, ◌∙◌, List, ap, ap₂, drop, length, refl, rules, subst, sym, take, zip}
use Rattle.ep_base.specs.declared.record.Record.{Record}
use Rattle.ep_orders.specs.declared.turn.Turn.{Turn}
use Rattle.ep_orders.specs.Explorer.{world_in}
use Rattle.ep_orders.specs.Place.{Move}
use Rattle.ep_orders.proofs.ExplorerLemmas.{comes_next, is_chosen, same_setup, sets_up_same, told_moves}
use Rattle.ep_orders.proofs.explorer.ExplorerRuns.run.Goals as goal

pub returns-clause-comes : goal.returns-clause-comes
returns-clause-comes g c =
    let kept : c.saturating_sub-kept.result ≡ length c.args.path.now.items - 1 = search rules in
    comes_next _ _ c.args.path.now.items c.walk.new.path.items c.in_ok-course.course.turns.items (g.K.Kernel.past c.in_ok-course.course.kernel) c.in_ok-course.ensures.walked
    c.args.self.now.turns.items (g.K.Kernel.past c.args.self.now.kernel)
    (subst (λ k. take (length c.args.self.now.scenario.now.setup.items + k) (g.K.Kernel.past c.args.self.now.kernel)
    ≡ take (length c.args.self.now.scenario.now.setup.items + k) (g.K.Kernel.past c.in_ok-course.course.kernel)) kept (c.in_ok-same.ensures.history c.if-not-same.false))
    (subst (λ k. take k c.args.self.now.turns.items ≡ take k c.in_ok-course.course.turns.items) kept (c.in_ok-same.ensures.turns c.if-not-same.false))

pub returns-clause-told : goal.returns-clause-told
returns-clause-told g c =
    let order = c.in_ok-course.ensures.walked in
    let w = world_in g.M.Makes.limits c.args.self.now in
    let count : c.len-2.result ≡ length c.args.self.now.scenario.now.setup.items = search rules in
    let here : c.history.result.now.items ≡ g.K.Kernel.past c.in_ok-course.course.kernel =
    c.history.ensures.here ∙ ap (λ (t : List Record). drop (length t) (g.K.Kernel.past c.in_ok-course.course.kernel)) c.in_ok-course.ensures.taken in
    let records : c.as_slice-2.result.now ≡ drop (length c.args.self.now.scenario.now.setup.items) (g.K.Kernel.past c.in_ok-course.course.kernel) =
    c.as_slice-2.ensures.value ∙ c.in_ok-records.ensures ∙ ap₂ (λ n (z : List Record). drop n z) count here in
    let moves = ap₂ (λ (a : List Turn) (b : List Record). zip a b) c.as_slice.ensures.value records ∙ sym (told_moves _ _ c.args.path.now.items c.walk.new.path.items
    c.in_ok-course.course.turns.items (g.K.Kernel.past c.in_ok-course.course.kernel) order) in
    record {
      maker = refl;
      scenario = refl;
      rules = refl;
      same = same_setup _ _ c.args.path.now.items c.walk.new.path.items c.in_ok-course.course.turns.items (g.K.Kernel.past c.in_ok-course.course.kernel) order
          (g.K.Kernel.past c.args.self.now.kernel) c.saturating_sub-kept.result (c.in_ok-same.ensures.history c.if-not-same.false);
      start = order.start;
      sets_up = sets_up_same _ _ c.args.path.now.items c.walk.new.path.items c.in_ok-course.course.turns.items (g.K.Kernel.past c.in_ok-course.course.kernel) order;
      chosen = is_chosen _ _ c.args.path.now.items c.walk.new.path.items c.in_ok-course.course.turns.items (g.K.Kernel.past c.in_ok-course.course.kernel) order;
      noted = subst (λ (z : List Move). g.V.Visitor.notes c.args.self.now.visitor z c.visit.new.self) moves c.in_ok-visit.ensures;
    }
