use Rattle.std.proofs.Common.{ap}
use Rattle.ep_script.specs.declared.held.Gathered.{Gathered}
use Rattle.ep_script.proofs.GatherLemmas.{told_not, untold}
use Rattle.ep_script.proofs.answer.answer_line.Goals as goal

pub returns-in_default-clause-err : goal.returns-in_default-clause-err
returns-in_default-clause-err g c =
    untold _ _ _ _ _ _ _ _ _ _ c.write_behind.result c.write_behind.ensures.ended (ap (λ (x : Gathered). x.bytes.items) c.ask.ensures.gathered) c.in_default.ensures.err

pub returns-in-Err-clause-err : goal.returns-in-Err-clause-err
returns-in-Err-clause-err g c =
    told_not _ _ _ _ _ _ _ _ _ _ _ _ _ c.in-Err.fault c.in-Ok.ensures.ok (ap (λ (x : Gathered). x.bytes.items) c.ask.ensures.gathered) (rw c.as_bytes.ensures.value at c.in-Err.ensures.err)
