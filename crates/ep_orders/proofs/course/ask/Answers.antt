use Rattle.std.proofs.Common.{sym}
use Rattle.ep_orders.proofs.CourseLemmas.{entered}
use Rattle.ep_orders.proofs.course.ask.Goals as goal

pub returns-clause-enters : goal.returns-clause-enters
returns-clause-enters g c =
    entered _ c.args.caller c.args.event c.step-answer.result _ _ _ _ c.is_no_memory.result (sym c.is_no_memory.ensures) c.if-is_no_memory.false c.step-answer.ensures.acts
