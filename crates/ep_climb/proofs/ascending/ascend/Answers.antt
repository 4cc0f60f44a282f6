use Rattle.std.proofs.Common.{◌∙◌, arith, subst, sym, ℕ}
use Rattle.ep_climb.proofs.AscentLemmas.{GoesUp, ascends_again, ascends_alone, edge_from, goes_first, goes_on, goes_up, no_edge, outer_of}
use Rattle.ep_climb.proofs.LinkLemmas.{no_links}
use Rattle.ep_climb.proofs.WalkLemmas.{home_still}
use Rattle.ep_climb.specs.Reach.{are_outer, edges_along}
use Rattle.ep_facts.proofs.BoolFacts.{from_not, from_not_false}
use Rattle.ep_machine.specs.Lists.{is_among}
use Rattle.ep_nest.specs.Links.{starting_at}
use Rattle.ep_nest.specs.declared.link.Way.TheVariants.{Up}
use Rattle.ep_climb.proofs.ascending.ascend.Goals as goal

pub returns-then-not-reach : goal.returns-then-not-reach
returns-then-not-reach c =
    let w = c.args.reached.now in
    ascends_again (edges_along c.args.along c.args.graph.now) c.args.instance.0 w c.reach.new.self c.requires.closed
    (from_not_false (is_among w.reached c.args.instance.0) (sym c.reach.ensures.answer ∙ c.if-not-reach.true)) c.reach.ensures.walk

pub returns-then-not-has_links : goal.returns-then-not-has_links
returns-then-not-has_links c =
    let w = c.args.reached.now in
    ascends_alone (edges_along c.args.along c.args.graph.now) c.args.instance.0 w c.reach.new.self
    (from_not (is_among w.reached c.args.instance.0) (sym c.reach.ensures.answer ∙ c.if-not-reach.false)) c.reach.ensures.walk
    (no_edge c.args.along c.args.graph.now (no_links c.args.graph.now (sym c.has_links.ensures ∙ c.if-not-has_links.true)))

pub loop-done-init : goal.loop-done-init
loop-done-init c =
    let w = c.args.reached.now in
    let es = edges_along c.args.along c.args.graph.now in
    let fresh = from_not (is_among w.reached c.args.instance.0) (sym c.reach.ensures.answer ∙ c.if-not-reach.false) in
    subst (λ (n : ℕ). GoesUp es c.args.instance.0 w n c.reach.new.self) (sym c.count-done.ensures) (goes_first es c.args.instance.0 w c.reach.new.self fresh c.reach.ensures.walk c.requires.closed)

pub cross_each-requires : goal.cross_each-requires
cross_each-requires c = home_still c.args.graph.now c.args.reached.now c.loop-done.reached c.loop-done.invariant.room c.requires.home

pub loop-done-smaller : goal.loop-done-smaller
loop-done-smaller c = omega (arith, c.known.ensures.few, c.loop-done-test.true, c.count.ensures, c.cross_each.ensures.room)

pub loop-done-preserved : goal.loop-done-preserved
loop-done-preserved c =
    let a = c.args.along in
    let ls = c.args.graph.now in
    let k = c.at.result in
    goes_on (edges_along a ls) c.args.instance.0 c.args.reached.now c.loop-done.done k (are_outer a (starting_at Up k ls)) c.loop-done.reached c.cross_each.new.reached c.requires.closed
    (omega (arith, c.loop-done-test.true, c.count.ensures)) c.at.ensures (λ x h. edge_from a ls k x h) (λ x h. outer_of a ls k x h) c.cross_each.ensures c.loop-done.invariant

pub returns : goal.returns
returns c =
    goes_up (edges_along c.args.along c.args.graph.now) c.args.instance.0 c.args.reached.now c.loop-done.done c.loop-done.reached (omega (arith, c.loop-done-test.false, c.count.ensures)) c.loop-done.invariant
