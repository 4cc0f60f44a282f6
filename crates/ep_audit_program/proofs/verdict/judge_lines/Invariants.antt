use Rattle.std.specs.Io.KnownBytes.{prepend_known}
use Rattle.std.proofs.Common.{[]}
use Rattle.ep_base.specs.Limits.{Limits}
use Rattle.ep_script.specs.Unread.{unread}
use Rattle.ep_audit_program.specs.Verdict.{WasTold}
use Rattle.ep_audit_program.proofs.VerdictLemmas.{IsJudging}
use Rattle.ep_audit_program.proofs.verdict.judge_lines.Given as goal

abbrev pub invariant-loop-done : goal.invariant-loop-done
invariant-loop-done g l = (limits : Limits) → WasTold limits [] [] l.fn.judge → IsJudging limits (g.R.Read.remaining l.fn.reader.inner) (prepend_known (unread l.past.input) (g.R.Read.remaining l.reader.inner)) l.judge l.done
