use Rattle.std.proofs.Common.{◌∙◌, sym}
use Rattle.ep_calls.specs.Book.{state_of}
use Rattle.ep_audit.proofs.AuditLemmas.{made_here}
use Rattle.ep_audit.proofs.steps.make_step.Goals as goal

pub returns-clause-made : goal.returns-clause-made
returns-clause-made c =
    let old = c.args.kernel.now in
    let new = c.step.new.self in
    made_here old.limits (state_of old) (state_of new) c.args.next.now c.in_ok-event.event c.step.result old.past new.past
    c.step.ensures.acts c.in_ok-event.ensures.ok (sym c.is_no_memory.ensures ∙ c.if-is_no_memory.false)
