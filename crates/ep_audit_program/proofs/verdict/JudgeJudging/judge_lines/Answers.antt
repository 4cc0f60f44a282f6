use Rattle.ep_audit_program.proofs.verdict.JudgeJudging.judge_lines.Goals as goal

pub returns : goal.returns
returns g c = λ limits new. record {
  verdict = c.judge_lines.ensures.verdict limits new;
  bad = c.judge_lines.ensures.bad limits new;
  long = c.judge_lines.ensures.long limits new;
}
