use Rattle.std.proofs.Common.{subst}
use Rattle.ep_audit.specs.Audit.{Finds}
use Rattle.ep_audit.specs.Judged.{judged_records}
use Rattle.ep_audit.proofs.AuditLemmas.{blames_none, blames_one, run_has_none}
use Rattle.ep_audit.proofs.verdict.verdict.Goals as goal

pub returns-in-None-clause-illegal : goal.returns-in-None-clause-illegal
returns-in-None-clause-illegal c =
    let limits = c.args.limits.now in let records = judged_records c.args.judged in
    blames_none limits records (subst (Finds limits records) c.in-None.is c.in_ok-first_illegal_from_new.ensures)

pub returns-in-Some-clause-ok : goal.returns-in-Some-clause-ok
returns-in-Some-clause-ok c =
    let limits = c.args.limits.now in let records = judged_records c.args.judged in
    let here = subst (Finds limits records) c.in-Some.is c.in_ok-first_illegal_from_new.ensures in
    ((λ e. cc), λ e. absurd (run_has_none limits records c.in-Some.place e here))

pub returns-in-Some-clause-illegal : goal.returns-in-Some-clause-illegal
returns-in-Some-clause-illegal c =
    let limits = c.args.limits.now in let records = judged_records c.args.judged in
    blames_one limits records c.in-Some.place (subst (Finds limits records) c.in-Some.is c.in_ok-first_illegal_from_new.ensures)
