use Rattle.std.proofs.Common.{◌∙◌, List, subst}
use Rattle.ep_base.specs.declared.ids.EntryId.{EntryId}
use Rattle.ep_choice.proofs.GatherLemmas.{Gathers, gathers_begin, gathers_next}
use Rattle.ep_interest.specs.declared.entry.Entry.{Entry}
use Rattle.ep_choice.proofs.choosing.gather.Goals as goal

pub loop-id-init : goal.loop-id-init
loop-id-init c =
    gathers_begin c.args.interest.now c.args.target c.args.step c.args.candidates.now c.known.ensures c.into_iter-id-iterator.result (c.into_iter-id-iterator.ensures.into_iter_gives ∙ c.exclusive_watchers-id-items.ensures) c.requires.none

pub loop-id-preserved : goal.loop-id-preserved
loop-id-preserved c =
    let before =
    subst (λ (left : List (EntryId × Entry)). Gathers c.args.interest.now c.args.target c.args.step c.args.candidates.now left c.loop-id.candidates) c.in-Some.ensures.steps c.loop-id.invariant in
    gathers_next c.args.interest.now c.args.target c.args.step c.args.candidates.now (c.in-Some.id, c.in-Some.entry.now) c.next.new.self c.loop-id.candidates c.gather_one.new.candidates before c.gather_one.ensures
