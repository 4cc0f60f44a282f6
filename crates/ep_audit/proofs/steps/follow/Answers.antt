use Rattle.ep_calls.specs.Book.{state_of}
use Rattle.ep_audit.proofs.AuditLemmas.{answered, made_with}
use Rattle.ep_audit.proofs.steps.follow.Goals as goal

pub returns-in-Some-clause-goes : goal.returns-in-Some-clause-goes
returns-in-Some-clause-goes c =
    let old = c.args.kernel.now in
    let new = c.step_with-step.new.self in
    answered
    old.limits (state_of old) (state_of new) c.args.next.now c.in_ok-event.event c.as_slice.result.now c.in-Some.answer old.past new.past
    c.in-Some.ensures.steps c.in_ok-event.ensures.ok c.is_answered.result c.as_slice.ensures c.is_answered.ensures.real c.is_answered.ensures.same

pub returns-in-Some-clause-made : goal.returns-in-Some-clause-made
returns-in-Some-clause-made c =
    let old = c.args.kernel.now in
    let new = c.step_with-step.new.self in
    made_with
    old.limits (state_of old) (state_of new) c.args.next.now c.in_ok-event.event c.as_slice.result.now c.in-Some.answer old.past new.past
    c.in-Some.ensures.steps c.in_ok-event.ensures.ok c.is_answered.result c.is_answered.ensures.real
