use Rattle.std.proofs.Common.{◌≡◌, IsSome, false, subst, sym}
use Rattle.ep_base.specs.declared.answer.Answer.{Answer}
use Rattle.ep_machine.specs.Files.{side_of}
use Rattle.ep_calls.specs.ObjectCall.{FitsRoom}
use Rattle.ep_calls.specs.Parts.{Parts}
use Rattle.ep_calls.proofs.ObjectCallLemmas.{fits}
use Rattle.ep_calls.proofs.ObjectLemmas.{applied_coherent}
use Rattle.ep_object.proofs.RealLemmas.{answer_real}
use Rattle.ep_calls.specs.Acts.{is_no_memory}
use Rattle.ep_table.specs.Value.{content_of, number_of, number_under}
use Rattle.ep_calls.proofs.parts.Parts.long_call.Goals as goal

pub outcome_of-requires-clause-fits : goal.outcome_of-requires-clause-fits
outcome_of-requires-clause-fits c =
    let v = c.self.inside.tables in
    let d = number_of v c.args.desc in
    let room = c.in_ok-rooms.rooms.room in
    subst (λ (a : Answer). FitsRoom a room) (sym c.in_ok-answer.ensures.answer)
    (fits (content_of v.files d) (side_of v.files d) c.self.inside.clock c.args.asked.now room c.in_ok-rooms.ensures.inline c.in_ok-rooms.ensures.room)

pub outcome_of-requires-clause-more_fits : goal.outcome_of-requires-clause-more_fits
outcome_of-requires-clause-more_fits c wanted =
    let v = c.self.inside.tables in
    let d = number_of v c.args.desc in
    let more = c.in_ok-rooms.rooms.more in
    subst (λ (a : Answer). FitsRoom a more) (sym c.in_ok-answer.ensures.answer)
    (fits (content_of v.files d) (side_of v.files d) c.self.inside.clock c.args.asked.now more c.in_ok-rooms.ensures.more_inline (c.in_ok-rooms.ensures.more wanted))

pub outcome_of-requires-clause-real : goal.outcome_of-requires-clause-real
outcome_of-requires-clause-real c =
    let v = c.self.inside.tables in
    let d = number_of v c.args.desc in
    subst (λ (a : Answer). is_no_memory a ≡ false) (sym c.in_ok-answer.ensures.answer)
    (answer_real (content_of v.files d) (side_of v.files d) c.self.inside.clock c.args.asked.now)

pub invariant_of-self-2 : goal.invariant_of-self-2
invariant_of-self-2 c =
    let k = c.self.inside in
    let p : Parts = record { tables = k.tables; interest = k.interest; graph = k.graph; parked = k.waiters; clock = k.clock } in
    applied_coherent p c.apply.new.self c.args.desc c.args.asked.now c.known.ensures (subst (λ (q : Parts). IsSome (number_under q.tables c.args.desc)) (sym c.self.view_is) c.requires.live) c.in_ok-answer.ensures.files c.self.invariant
