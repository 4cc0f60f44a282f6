use Rattle.std.proofs.Common.{Contains, List, [], ap, arith, length, refl, rules, set, subst, sym, ℕ, ◌-◌, ◌<◌, ◌∙◌, ◌≡◌, ◌≤◌}
use Rattle.ep_machine.specs.Lists.{is_among}
use Rattle.std.specs.List.{AllByRecursion}
use Rattle.ep_nest.proofs.DepthLemmas.{IsDeepening, all_start, begun, ended, ends_on, gone_on, leading, placed_along, some_left}
use Rattle.ep_nest.specs.Depths.{EndsWithin, depth_at, one_more}
use Rattle.ep_nest.specs.Lengths.{HasPlaces}
use Rattle.ep_nest.specs.Links.{along, edges, ends, ends_of, starting_at, turned}
use Rattle.ep_nest.specs.declared.link.Link.{Link}
use Rattle.ep_nest.specs.declared.link.Way.{Way}
use Rattle.ep_nest.proofs.depths.+deepen.Goals as goal

-- the links that lead to the instance along the way
turns_are : (way turn : Way) (instance : ℕ) (all ls : List Link) → turn ≡ turned way → ls ≡ starting_at turn instance all → ls ≡ starting_at (turned way) instance all
turns_are way turn instance all ls same is = is ∙ ap (λ (w : Way). starting_at w instance all) same

pub returns-in_default-clause-deepens : goal.returns-in_default-clause-deepens
returns-in_default-clause-deepens g t c =
    let way = c.args.way in
    let all = c.args.links.now in
    let instance = c.args.instance.0 in
    let first = c.args.depths.now in
    let now = set first instance c.args.least in
    let none : starting_at (turned way) instance all ≡ [] = ap (λ (w : Way). starting_at w instance all) (sym c.turned.ensures) ∙ c.in_default.ensures.none in
    ended (along way all) first now instance c.args.least
    (begun (along way all) first now instance c.args.least [] c.if-depths-instance.false c.requires.place refl
    (λ x link. ap (λ (ls : List Link). is_among (ends (turned way) ls) x) (sym none) ∙ leading way all instance x link))

pub loop-link-init : goal.loop-link-init
loop-link-init g t c =
    let way = c.args.way in
    let all = c.args.links.now in
    let instance = c.args.instance.0 in
    let first = c.args.depths.now in
    let ls = c.into_iter-link-iterator.result in
    let is : ls ≡ starting_at (turned way) instance all = turns_are way c.turned.result instance all ls c.turned.ensures (c.into_iter-link-iterator.ensures.into_iter_gives ∙ c.in-Some.ensures.some) in
    record {
      deep = begun (along way all) first (set first instance c.args.least) instance c.args.least (ends (turned way) ls) c.if-depths-instance.false c.requires.place refl
          (λ x link. ap (λ (ls : List Link). is_among (ends (turned way) ls) x) is ∙ leading way all instance x link);
      there = all_start (turned way) instance all ls (λ l in_ls. subst (λ (xs : List Link). Contains xs l) is in_ls);
    }

pub overflow_sub-left : goal.overflow_sub-left
overflow_sub-left g t c = omega (arith, some_left (along (turned c.args.way) c.args.links.now) c.args.left c.args.instance.0 c.requires.ends)

pub deepen-requires : goal.deepen-requires
deepen-requires g t c κs within =
    let way = c.args.way in
    let all = c.args.links.now in
    let back = along (turned way) all in
    let some = some_left back c.args.left c.args.instance.0 c.requires.ends in
    let less : c.args.left - 1 < t = omega (arith, some, c.decreases) in
    let step = c.in-Some-link.ensures.steps in
    let there = subst (λ (ls : List Link). AllByRecursion (λ k. Contains back (c.args.instance.0, k)) (ends (turned way) ls)) step c.loop-link.invariant.there in
    let end : c.end.result.0 ≡ (ends_of (turned way) c.in-Some-link.link.now).1 = c.end.ensures ∙ ap (λ (w : Way). (ends_of w c.in-Some-link.link.now).1) c.turned-in-loop-link.ensures in
    let link : Contains back (c.args.instance.0, c.end.result.0) = subst (λ (k : ℕ). Contains back (c.args.instance.0, k)) (sym end) there.0 in
    let long = c.loop-link.invariant.deep.length in
    let places : HasPlaces (edges all) (length c.loop-link.depths) = subst (λ (n : ℕ). HasPlaces (edges all) n) (sym long) c.requires.places in
    let place : c.end.result.0 < length c.loop-link.depths = (placed_along (turned way) all (length c.loop-link.depths) c.args.instance.0 c.end.result.0 places link).1 in
    let fewer : EndsWithin (c.args.left - 1) back c.end.result.0 = ends_on back c.args.left c.args.instance.0 c.end.result.0 link c.requires.ends in
    search (rules, less, places, place, fewer)

pub loop-link-preserved : goal.loop-link-preserved
loop-link-preserved g t c =
    let way = c.args.way in
    let all = c.args.links.now in
    let instance = c.args.instance.0 in
    let back = along (turned way) all in
    let step = c.in-Some-link.ensures.steps in
    let end : c.end.result.0 ≡ (ends_of (turned way) c.in-Some-link.link.now).1 = c.end.ensures ∙ ap (λ (w : Way). (ends_of w c.in-Some-link.link.now).1) c.turned-in-loop-link.ensures in
    let before = subst (λ (ls : List Link). IsDeepening (along way all) c.args.depths.now c.loop-link.depths instance c.args.least (ends (turned way) ls)) step c.loop-link.invariant.deep in
    let there = subst (λ (ls : List Link). AllByRecursion (λ k. Contains back (instance, k)) (ends (turned way) ls)) step c.loop-link.invariant.there in
    let at = ap (depth_at c.deepen.new.depths) end in
    let reached : one_more (depth_at c.loop-link.depths instance) ≤ depth_at c.deepen.new.depths (ends_of (turned way) c.in-Some-link.link.now).1 = omega (arith, c.deepen.ensures.least, c.one_more-next.ensures, at) in
    record {
      deep = gone_on (along way all) c.args.depths.now c.loop-link.depths c.deepen.new.depths instance c.args.least (ends_of (turned way) c.in-Some-link.link.now).1 (ends (turned way) c.next.new.self) before reached c.deepen.ensures.deepens;
      there = there.1;
    }

pub returns-clause-least : goal.returns-clause-least
returns-clause-least g t c = c.loop-link.invariant.deep.least

pub returns-clause-deepens : goal.returns-clause-deepens
returns-clause-deepens g t c =
    let way = c.args.way in
    let all = c.args.links.now in
    ended (along way all) c.args.depths.now c.loop-link.depths c.args.instance.0 c.args.least
    (subst (λ (ls : List Link). IsDeepening (along way all) c.args.depths.now c.loop-link.depths c.args.instance.0 c.args.least (ends (turned way) ls)) c.in-None.ensures.steps.0 c.loop-link.invariant.deep)
