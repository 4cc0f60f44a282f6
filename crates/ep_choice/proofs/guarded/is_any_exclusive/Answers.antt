use Rattle.std.proofs.Common.{◌∙◌, sym}
use Rattle.ep_base.specs.declared.ids.DescId.{DescId}
use Rattle.ep_choice.proofs.GuardedLemmas.{found_one, none_more}
use Rattle.ep_choice.specs.Guarded.{has_exclusive}
use Rattle.ep_choice.proofs.guarded.is_any_exclusive.Goals as goal

abbrev nowhere : DescId
nowhere = record { 0 = 0 }

pub returns-then-has_exclusive : goal.returns-then-has_exclusive
returns-then-has_exclusive c =
    let r = c.args.interest.now in
    sym (found_one (has_exclusive r) c.args.instances.now c.loop-instance.instance-index nowhere c.loop-instance-test.true (sym c.has_exclusive.ensures ∙ c.if-has_exclusive.true))

pub loop-instance-preserved : goal.loop-instance-preserved
loop-instance-preserved c =
    let r = c.args.interest.now in
    none_more (has_exclusive r) c.args.instances.now c.loop-instance.instance-index nowhere c.loop-instance-test.true c.loop-instance.invariant (sym c.has_exclusive.ensures ∙ c.if-has_exclusive.false)
