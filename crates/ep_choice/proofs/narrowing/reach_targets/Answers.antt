use Rattle.ep_base.specs.declared.ids.EntryId.{EntryId}
use Rattle.ep_choice.proofs.TargetLemmas.{gone_next}
use Rattle.ep_choice.proofs.narrowing.reach_targets.Goals as goal

abbrev first : EntryId
first = record { 0 = 0 }

pub loop-id-preserved : goal.loop-id-preserved
loop-id-preserved c =
    gone_next c.args.interest.now c.passing-id-items.result.now c.loop-id.id-index first c.args.targets.now c.loop-id.targets c.reach_target.new.targets c.loop-id-test.true c.loop-id.invariant c.reach_target.ensures
