use Rattle.std.proofs.Common.{◌≡◌, List, arith, subst, take, take_all}
use Rattle.std.proofs.lemmas.Bool.Decides.{nat_tests}
use Rattle.ep_base.specs.declared.ids.EntryId.{EntryId}
use Rattle.ep_climb.proofs.WalkLemmas.{Walked, home_still, room_still, walked_all, walked_next}
use Rattle.ep_climb.specs.Reach.{open_edges}
use Rattle.ep_climb.proofs.reaching.walk.Goals as goal

abbrev first : EntryId
first = record { 0 = 0 }

pub ascend_from-requires-clause-closed : goal.ascend_from-requires-clause-closed
ascend_from-requires-clause-closed c = c.loop-id.invariant.closed

pub ascend_from-requires-clause-room : goal.ascend_from-requires-clause-room
ascend_from-requires-clause-room c = room_still c.args.interest.now c.args.reached.now c.loop-id.reached c.loop-id.invariant.room c.requires.room

pub ascend_from-requires-clause-home : goal.ascend_from-requires-clause-home
ascend_from-requires-clause-home c = home_still c.args.graph.now c.args.reached.now c.loop-id.reached c.loop-id.invariant.room c.requires.home

pub loop-id-preserved : goal.loop-id-preserved
loop-id-preserved c =
    walked_next c.args.step c.args.interest.now (open_edges c.args.interest.now c.args.graph.now) c.passing-id-items.result.now c.loop-id.id-index first c.args.reached.now c.loop-id.reached c.ascend_from.new.reached
    c.loop-id-test.true c.loop-id.invariant c.ascend_from.ensures

pub returns : goal.returns
returns c =
    let all = c.passing-id-items.result.now in
    let whole : take c.loop-id.id-index all ≡ all = take_all c.loop-id.id-index all (omega (arith, c.loop-id-test.false)) in
    walked_all c.args.step c.args.interest.now c.args.graph.now all c.args.reached.now c.loop-id.reached (let positive = c.requires.step in grind (arith, nat_tests, positive)) c.passing-id-items.ensures.exact
    (subst (λ (ids : List EntryId). Walked c.args.step c.args.interest.now (open_edges c.args.interest.now c.args.graph.now) ids c.args.reached.now c.loop-id.reached) whole c.loop-id.invariant)
