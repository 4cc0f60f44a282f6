use Rattle.ep_text.proofs.PlainLemmas.{first_digit, next_digit}
use Rattle.ep_text.proofs.plain.natural.Goals as goal

pub digits-init : goal.digits-init
digits-init c =
    let first = c.in_ok-first in
    first_digit c.from-number.result c.in_ok-digit.field-0 first.first.now c.args.rest.now first.behind.now first.ensures.cases.0 c.in_ok-digit.ensures c.from-number.ensures

pub digits-preserved : goal.digits-preserved
digits-preserved c =
    let next = c.in-Some in
    next_digit c.digits.number c.from.result c.in-Some-digit.value next.byte.now c.args.rest.now c.digits.left.now next.after.now
    c.digits.invariant.0 next.ensures.cases.0 c.if-number-eq0.false c.if-number-gt-MOST_BEFORE_A_DIGIT.false c.in-Some-digit.ensures c.from.ensures
