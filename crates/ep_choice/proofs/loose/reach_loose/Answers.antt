use Rattle.std.proofs.Common.{◌≡◌, ◌∙◌, ◌<◌, List, arith, length, subst, sym, true}
use Rattle.ep_calls.specs.Parts.{Parts}
use Rattle.ep_choice.proofs.LooseLemmas.{above_next, admitted_all}
use Rattle.ep_choice.proofs.WalkLemmas.{among_place}
use Rattle.ep_climb.proofs.ReachLemmas.{all_home}
use Rattle.ep_climb.proofs.WalkLemmas.{ascends_closed, room_still}
use Rattle.ep_climb.specs.Reach.{AreRoomy, Ascends, IsClosed}
use Rattle.ep_nest.specs.Links.{admitted_by, edges}
use Rattle.ep_nest.specs.declared.link.Link.{Link}
use Rattle.ep_table.specs.Value.{Sound}
use Rattle.ep_choice.proofs.loose.reach_loose.Goals as goal

pub ascend-requires-clause-closed : goal.ascend-requires-clause-closed
ascend-requires-clause-closed c =
    let all : admitted_by (λ k. true) c.parts.inside.graph ≡ c.args.parts.now.graph = admitted_all c.parts.inside.graph ∙ (λ j. (c.parts.view_is j).graph) in
    subst (λ (ls : List Link). IsClosed (edges ls) c.loop-index.reached.reached) (sym all) c.loop-index.invariant.closed

pub ascend-requires-clause-room : goal.ascend-requires-clause-room
ascend-requires-clause-room c =
    let ks = c.args.lost.now.reached in
    let k = c.at.result in
    subst (λ n. k < n) (sym c.loop-index.invariant.room) (c.requires.fits k (among_place ks c.loop-index.index k (omega (arith, c.loop-index-test.true, c.count-index-end.ensures)) c.at.ensures))

pub ascend-requires-clause-home : goal.ascend-requires-clause-home
ascend-requires-clause-home c =
    let k = c.parts.inside in
    let tables = subst (λ (q : Parts). Sound q.tables) (sym c.parts.view_is) c.known.ensures.sound in
    let roomy = subst (λ (q : Parts). AreRoomy q.interest c.args.reached.now) (sym c.parts.view_is) c.requires.room in
    all_home k.tables tables k.interest c.known-2.ensures c.parts.invariant.linked k.graph c.parts.invariant.nested c.loop-index.reached (room_still k.interest c.args.reached.now c.loop-index.reached c.loop-index.invariant.room roomy)

pub loop-index-preserved : goal.loop-index-preserved
loop-index-preserved c =
    let ks = c.args.lost.now.reached in
    let i = c.loop-index.index in
    let k = c.at.result in
    let es = edges c.args.parts.now.graph in
    let v = c.loop-index.invariant in
    let within : i < length ks = omega (arith, c.loop-index-test.true, c.count-index-end.ensures) in
    let all : admitted_by (λ k. true) c.parts.inside.graph ≡ c.args.parts.now.graph = admitted_all c.parts.inside.graph ∙ (λ j. (c.parts.view_is j).graph) in
    let more = subst (λ (ls : List Link). Ascends (edges ls) k c.loop-index.reached c.ascend.new.reached) all c.ascend.ensures in
    record {
      room = more.room ∙ v.room;
      closed = ascends_closed es k c.loop-index.reached c.ascend.new.reached v.closed more;
      above = above_next es ks i k c.loop-index.reached c.ascend.new.reached within c.at.ensures v.above more;
    }
