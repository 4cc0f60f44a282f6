use Rattle.std.proofs.Common.{ap, arith, ◌==◌}
use Rattle.ep_script.proofs.Lines.{plain_until}
use Rattle.ep_script.proofs.input.plain_front.Goals as goal

pub returns-in-Some-clause-plain : goal.returns-in-Some-clause-plain
returns-in-Some-clause-plain c =
    let first = c.in-Some.ensures.0 in
    plain_until c.args.bytes.now c.in-Some.place (omega (arith, first.high)) (λ k less e. first.before k (omega arith) less (ap (λ x. x == 10) e))

pub returns-in-None-clause-plain : goal.returns-in-None-clause-plain
returns-in-None-clause-plain c = plain_until c.args.bytes.now _ (omega arith) (λ k less e. c.in-None.ensures k (omega arith) less (ap (λ x. x == 10) e))
