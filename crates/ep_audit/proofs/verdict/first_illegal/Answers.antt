use Rattle.std.proofs.Common.{take}
use Rattle.ep_audit.proofs.AuditorLemmas.{goes_on, goes_wrong}
use Rattle.ep_audit.proofs.verdict.first_illegal.Goals as goal

pub returns-then-not-branch : goal.returns-then-not-branch
returns-then-not-branch c = λ limits new.
    let had = c.loop-place.invariant limits new in
    goes_wrong limits c.args.records.now _ _ _ _ _ c.loop-place-test.true c.index-records-place.is c.if-not-branch.true had (c.in_ok-allows.ensures.judges limits _ had)

pub loop-place-preserved : goal.loop-place-preserved
loop-place-preserved c = λ limits new.
    let had = c.loop-place.invariant limits new in
    goes_on limits c.args.records.now _ _ _ _ c.loop-place-test.true c.index-records-place.is c.if-not-branch.false (c.in_ok-allows.ensures.judges limits _ had)
