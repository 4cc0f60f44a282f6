use Rattle.std.proofs.Common.{◌∙◌, List, ap, filter, subst}
use Rattle.ep_base.specs.declared.ids.EntryId.{EntryId}
use Rattle.ep_calls.specs.Parts.{Parts}
use Rattle.ep_choice.proofs.LosingLemmas.{homes_are, homes_of, is_home, reaches_home}
use Rattle.ep_choice.specs.Lost.{guard_home, guard_homes}
use Rattle.ep_climb.proofs.WalkLemmas.{Reaching, reaching_all, reaching_first, reaching_next, room_still}
use Rattle.ep_interest.specs.Registrations.{IsSound, entry_under, ids, is_on}
use Rattle.ep_choice.proofs.losing.note_watchers.Goals as goal

pub loop-id-init : goal.loop-id-init
loop-id-init c =
    let p = c.args.parts.now in
    let d = c.args.desc in
    let sound = subst (λ (q : Parts). IsSound q.interest) c.parts.view_is c.known.ensures in
    let listed = c.into_iter-id-iterator.ensures.into_iter_gives ∙ (c.watchers-id-items.ensures.exact ∙ ap (λ (q : Parts). ids q.interest (filter (is_on d) q.interest.entries)) c.parts.view_is) in
    reaching_first (guard_homes p.tables p.interest d) (homes_of p.tables p.interest c.into_iter-id-iterator.result) c.args.lost.now
    (λ k. ap (λ (xs : List EntryId). homes_of p.tables p.interest xs k) listed ∙ homes_are p.tables p.interest d sound k)

pub note-requires : goal.note-requires
note-requires c = record { room = room_still c.args.parts.now.interest c.args.lost.now c.loop-id.lost c.loop-id.invariant.room c.requires.room }

pub loop-id-preserved : goal.loop-id-preserved
loop-id-preserved c =
    let p = c.args.parts.now in
    let f = guard_homes p.tables p.interest c.args.desc in
    let o = guard_home p.tables (entry_under p.interest c.in-Some.id) in
    let before = subst (λ (left : List EntryId). Reaching f (homes_of p.tables p.interest left) c.args.lost.now c.loop-id.lost) c.in-Some.ensures.steps c.loop-id.invariant in
    reaching_next f (is_home o) (homes_of p.tables p.interest c.next.new.self) c.args.lost.now c.loop-id.lost c.note.new.lost (reaches_home o c.loop-id.lost c.note.new.lost c.note.ensures) before

pub returns : goal.returns
returns c =
    let p = c.args.parts.now in
    reaching_all (guard_homes p.tables p.interest c.args.desc) (homes_of p.tables p.interest c.loop-id.id-iterator) c.args.lost.now c.loop-id.lost
    (λ i. ap (λ (left : List EntryId). homes_of p.tables p.interest left i) c.in-None.ensures.steps.0) c.loop-id.invariant
