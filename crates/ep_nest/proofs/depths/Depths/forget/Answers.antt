use Rattle.std.proofs.Common.{List, ap, arith, length, ◌∙◌, ℕ}
use Rattle.std.proofs.lemmas.List.{with_items_is}
use Rattle.ep_nest.proofs.DepthLemmas.{deep_forgotten}
use Rattle.ep_nest.specs.Depths.{depth_at}
use Rattle.ep_nest.proofs.depths.Depths.forget.Goals as goal

pub returns : goal.returns
returns g c =
    let old = c.args.self.now in
    let d = c.args.instance.0 in
    let long_below = c.forget_at.ensures.length ∙ ap (λ (ds : List ℕ). length ds) c.deref_mut.ensures.value in
    let long_above = c.forget_at-2.ensures.length ∙ ap (λ (ds : List ℕ). length ds) c.deref_mut-2.ensures.value in
    let below = with_items_is old.below c.forget_at.new.depths (omega (arith, long_below, old.below.ok.0)) in
    let above = with_items_is old.above c.forget_at-2.new.depths (omega (arith, long_above, old.above.ok.0)) in
    λ ls. deep_forgotten d ls old _
    (λ x apart. ap (λ (ds : List ℕ). depth_at ds x) below ∙ (c.forget_at.ensures.others x apart ∙ ap (λ (ds : List ℕ). depth_at ds x) c.deref_mut.ensures.value))
    (λ x apart. ap (λ (ds : List ℕ). depth_at ds x) above ∙ (c.forget_at-2.ensures.others x apart ∙ ap (λ (ds : List ℕ). depth_at ds x) c.deref_mut-2.ensures.value))
    (ap (λ (ds : List ℕ). length ds) below ∙ long_below)
    (ap (λ (ds : List ℕ). length ds) above ∙ long_above)
