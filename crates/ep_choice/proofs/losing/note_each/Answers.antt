use Rattle.std.proofs.Common.{◌≡◌, ◌∙◌, List, Some, ap, map, refl, subst}
use Rattle.ep_base.specs.declared.ids.DescId.{DescId}
use Rattle.ep_calls.specs.Parts.{Parts}
use Rattle.ep_choice.proofs.LosingLemmas.{homes_on}
use Rattle.ep_choice.specs.Lost.{guard_homes}
use Rattle.ep_climb.proofs.WalkLemmas.{Reaching, reaching_all, reaching_first, reaching_next, room_still}
use Rattle.ep_table.specs.Value.{number_under}
use Rattle.ep_choice.proofs.losing.note_each.Goals as goal

pub loop-desc-init : goal.loop-desc-init
loop-desc-init c =
    let p = c.args.parts.now in
    let f = homes_on p.tables p.interest c.into_iter-desc-iterator.result in
    reaching_first f f c.args.lost.now (λ i. refl)

pub note_watchers-requires : goal.note_watchers-requires
note_watchers-requires c = record { room = room_still c.args.parts.now.interest c.args.lost.now c.loop-desc.lost c.loop-desc.invariant.room c.requires.room }

pub loop-desc-preserved : goal.loop-desc-preserved
loop-desc-preserved c =
    let p = c.args.parts.now in
    let f = homes_on p.tables p.interest c.into_iter-desc-iterator.result in
    let before = subst (λ (left : List DescId). Reaching f (homes_on p.tables p.interest left) c.args.lost.now c.loop-desc.lost) c.in-Some.ensures.steps c.loop-desc.invariant in
    reaching_next f (guard_homes p.tables p.interest c.in-Some.desc) (homes_on p.tables p.interest c.next.new.self) c.args.lost.now c.loop-desc.lost c.note_watchers.new.lost c.note_watchers.ensures before

pub returns : goal.returns
returns c =
    let p = c.args.parts.now in
    let all = c.into_iter-desc-iterator.result in
    let listed = ap (map (number_under c.parts.inside.tables)) c.into_iter-desc-iterator.ensures.into_iter_gives ∙ c.dying-desc-items.ensures.exact in (
      all,
      subst (λ (q : Parts). map (number_under q.tables) all ≡ map (λ d. Some d) q.tables.dying) c.parts.view_is listed,
      reaching_all (homes_on p.tables p.interest all) (homes_on p.tables p.interest c.loop-desc.desc-iterator) c.args.lost.now c.loop-desc.lost
          (λ i. ap (λ (left : List DescId). homes_on p.tables p.interest left i) c.in-None.ensures.steps.0) c.loop-desc.invariant,
    )
