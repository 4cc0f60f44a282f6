use Rattle.ep_choice.specs.Marking.{gets_mark_key}
use Rattle.ep_choice.proofs.MarkingLemmas.{nobody_due, nobody_marked, none_narrowed}
use Rattle.ep_choice.proofs.marking.mark_woken.Goals as goal

-- where nobody waits, nobody is marked
pub returns-then-is_idle-clause-marks : goal.returns-then-is_idle-clause-marks
returns-then-is_idle-clause-marks g c = nobody_marked (gets_mark_key c.args.step c.args.parts.now c.args.attend) c.args.parts.now (c.is_idle.ensures.nobody c.if-is_idle.true)

pub returns-then-is_idle-clause-narrowed : goal.returns-then-is_idle-clause-narrowed
returns-then-is_idle-clause-narrowed g c =
    let p = c.args.parts.now in
    none_narrowed c.args.step p p (nobody_due p (c.is_idle.ensures.nobody c.if-is_idle.true)) (c.is_idle.ensures.plain c.if-is_idle.true)
