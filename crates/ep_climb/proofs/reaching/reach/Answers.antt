use Rattle.std.proofs.Common.{◌∙◌, subst, sym}
use Rattle.ep_calls.specs.Parts.{Parts}
use Rattle.ep_climb.proofs.ReachLemmas.{all_home, are_reached}
use Rattle.ep_climb.proofs.WalkLemmas.{room_still}
use Rattle.ep_climb.specs.Reach.{AreReached, AreRoomy}
use Rattle.ep_table.specs.Value.{Sound}
use Rattle.ep_climb.proofs.reaching.reach.Goals as goal

pub walk-requires-clause-room : goal.walk-requires-clause-room
walk-requires-clause-room c =
    let k = c.parts.inside in
    room_still k.interest c.args.reached.now c.forget.new.self c.forget.ensures.room
    (subst (λ (q : Parts). AreRoomy q.interest c.args.reached.now) (sym c.parts.view_is) c.requires.room)

pub walk-requires-clause-home : goal.walk-requires-clause-home
walk-requires-clause-home c =
    let k = c.parts.inside in
    let tables = subst (λ (q : Parts). Sound q.tables) (sym c.parts.view_is) c.known.ensures.sound in
    all_home k.tables tables k.interest c.known-2.ensures c.parts.invariant.linked k.graph c.parts.invariant.nested c.forget.new.self
    (room_still k.interest c.args.reached.now c.forget.new.self c.forget.ensures.room
    (subst (λ (q : Parts). AreRoomy q.interest c.args.reached.now) (sym c.parts.view_is) c.requires.room))

pub returns-clause-room : goal.returns-clause-room
returns-clause-room c = c.walk.ensures.room ∙ c.forget.ensures.room

pub returns-clause-reached : goal.returns-clause-reached
returns-clause-reached c =
    let k = c.parts.inside in
    let tables = subst (λ (q : Parts). Sound q.tables) (sym c.parts.view_is) c.known.ensures.sound in
    subst (λ (q : Parts). AreReached c.args.step q.tables q.interest c.walk.new.reached.reached) c.parts.view_is
    (are_reached k.tables tables k.interest c.known-2.ensures c.parts.invariant.linked k.graph c.parts.invariant.nested c.known-3.ensures.legal c.args.step c.forget.new.self c.walk.new.reached c.walk.ensures)
