use Rattle.std.proofs.Common.{◌∙◌, ◌<◌, Contains, List, ap, subst, sym, ℕ}
use Rattle.ep_climb.proofs.AscentLemmas.{crosses_next}
use Rattle.ep_climb.proofs.WalkLemmas.{Reaching, reaching_first}
use Rattle.ep_climb.specs.Reach.{are_outer}
use Rattle.ep_nest.proofs.ElementLemmas.{Contains-cons, Contains-from_filter, Contains-head}
use Rattle.ep_nest.specs.Links.{starting_at, starts_at}
use Rattle.ep_nest.specs.declared.link.Link.{Link}
use Rattle.ep_nest.specs.declared.link.Way.TheVariants.{Up}
use Rattle.ep_climb.proofs.ascending.cross_each.Goals as goal

pub loop-link-init : goal.loop-link-init
loop-link-init c =
    let a = c.args.along.now in
    let k = c.args.inner.0 in
    let ls = c.args.graph.now in
    let listed = c.into_iter-link-iterator.ensures.into_iter_gives ∙ c.in-Some.ensures.some in
    record {
      reaching = reaching_first (are_outer a (starting_at Up k ls)) (are_outer a c.into_iter-link-iterator.result) c.args.reached.now (λ i. ap (λ (xs : List Link). are_outer a xs i) listed);
      home = λ x m. c.requires x (Contains-from_filter (starts_at Up k) ls x (subst (λ (xs : List Link). Contains xs x) listed m)).0;
    }

pub cross-requires : goal.cross-requires
cross-requires c =
    let l = c.in-Some-link.link.now in
    let here = subst (λ (xs : List Link). Contains xs l) (sym c.in-Some-link.ensures.steps) (Contains-head l c.next.new.self) in
    subst (λ (n : ℕ). l.outer.0 < n) (sym c.loop-link.invariant.reaching.room) (c.loop-link.invariant.home l here)

pub loop-link-preserved : goal.loop-link-preserved
loop-link-preserved c =
    let a = c.args.along.now in
    let l = c.in-Some-link.link.now in
    let rest = c.next.new.self in
    let steps = c.in-Some-link.ensures.steps in
    record {
      reaching =
          crosses_next a (are_outer a (starting_at Up c.args.inner.0 c.args.graph.now)) l rest c.args.reached.now c.loop-link.reached c.cross.new.reached c.cross.ensures
          (subst (λ (left : List Link). Reaching (are_outer a (starting_at Up c.args.inner.0 c.args.graph.now)) (are_outer a left) c.args.reached.now c.loop-link.reached) steps c.loop-link.invariant.reaching);
      home = λ x m. c.loop-link.invariant.home x (subst (λ (xs : List Link). Contains xs x) (sym steps) (Contains-cons l rest x m));
    }
