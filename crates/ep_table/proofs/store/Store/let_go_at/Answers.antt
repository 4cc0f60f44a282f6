use Rattle.std.proofs.Common.{List, Some, ap, arith, slice_get, subst, sym, take, ℕ, ◌∙◌, ◌∷◌, ◌≡◌, []}
use Rattle.ep_machine.specs.Connections.{pending_in}
use Rattle.ep_table.proofs.LettingGoLemmas.{lets_both, lets_nothing, pending_still, take_all, take_next, within}
use Rattle.ep_table.specs.LettingGo.{LetsGo}
use Rattle.ep_table.specs.Value.{content_of, files_in, thing_number}
use Rattle.ep_table.proofs.store.Store.let_go_at.Given.{Over}
use Rattle.ep_table.proofs.store.Store.let_go_at.Goals as goal

pub loop-number-init : goal.loop-number-init
loop-number-init g c = lets_nothing c.args.self.now

-- the next of those that wait there
next : (g : Over) (c : goal.After-let_go_one g) → slice_get (pending_in (content_of (files_in c.args.self.now) (thing_number c.args.self.now c.args.key))) c.loop-number.index ≡ Some c.in-Some.number
next g c =
    let still = pending_still c.args.self.now c.loop-number.self _ c.loop-number.invariant c.args.key c.object.result.now c.object.ensures in
    ap (λ (ks : List ℕ). slice_get ks c.loop-number.index) (sym still) ∙ (sym c.pending.ensures.number ∙ c.in-Some.is)

pub loop-number-smaller : goal.loop-number-smaller
loop-number-smaller g c = omega (arith, within _ c.loop-number.index c.in-Some.number (next g c))

pub loop-number-preserved : goal.loop-number-preserved
loop-number-preserved g c =
    let pending = pending_in (content_of (files_in c.args.self.now) (thing_number c.args.self.now c.args.key)) in
    subst (λ (ks : List ℕ). LetsGo c.args.self.now c.let_go_one.new.self ks) (sym (take_next pending c.loop-number.index c.in-Some.number (next g c)))
    (lets_both c.args.self.now c.loop-number.self c.let_go_one.new.self (take c.loop-number.index pending) (c.in-Some.number ∷ []) c.loop-number.invariant c.let_go_one.ensures)

pub returns : goal.returns
returns g c =
    let pending = pending_in (content_of (files_in c.args.self.now) (thing_number c.args.self.now c.args.key)) in
    let still = pending_still c.args.self.now c.loop-number.self _ c.loop-number.invariant c.args.key c.object.result.now c.object.ensures in
    let none = ap (λ (ks : List ℕ). slice_get ks c.loop-number.index) (sym still) ∙ (sym c.pending.ensures.number ∙ c.in_default.is) in
    subst (λ (ks : List ℕ). LetsGo c.args.self.now c.loop-number.self ks) (take_all pending c.loop-number.index none) c.loop-number.invariant
