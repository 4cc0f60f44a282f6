use Rattle.std.proofs.Common.{◌∙◌, ◌+◌, List, Option, ap, drop, sym}
use Rattle.std.proofs.lemmas.List.{drop_all, drop_more}
use Rattle.ep_base.specs.declared.ids.EntryId.{EntryId}
use Rattle.ep_interest.specs.InTurn.{changed_at}
use Rattle.ep_interest.specs.Registrations.{settled}
use Rattle.ep_interest.specs.declared.entry.Entry.{Entry}
use Rattle.ep_interest.proofs.interest.rest_each.Goals as goal

pub loop-id-preserved : goal.loop-id-preserved
loop-id-preserved g c = record {
  slots =
      ap (λ (slots : List (Option Entry)). changed_at settled (drop (c.loop-id.id-index + 1) c.args.ids.now) slots) c.rest_at.ensures.slots
      ∙ (ap (λ (ids : List EntryId). changed_at settled ids c.loop-id.slots.slots) (sym (drop_more c.args.ids.now c.loop-id.id-index _ c.loop-id-test.true)) ∙ c.loop-id.invariant.slots);
  next = c.rest_at.ensures.next ∙ c.loop-id.invariant.next;
}

pub returns-clause-slots : goal.returns-clause-slots
returns-clause-slots g c = ap (λ (ids : List EntryId). changed_at settled ids c.loop-id.slots.slots) (sym (drop_all c.loop-id.id-index c.args.ids.now c.loop-id-test.false)) ∙ c.loop-id.invariant.slots
