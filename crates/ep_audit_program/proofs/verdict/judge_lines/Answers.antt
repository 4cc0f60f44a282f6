use Rattle.std.specs.Io.KnownBytes.{prepend_known}
use Rattle.std.proofs.Common.{IfSome, List, subst, true, ℕ, ◌+◌, ◌≡◌}
use Rattle.ep_script.specs.Lines.{lines_of}
use Rattle.ep_script.specs.ReadHistory.{IsFirstBad, IsFirstLong}
use Rattle.ep_script.specs.Unread.{unread}
use Rattle.ep_script.proofs.PastLemmas.{bad_of, long_of}
use Rattle.ep_audit_program.proofs.VerdictLemmas.{IsToldMore, judge_bad, judge_long, judge_more, judge_nothing, judge_whole}
use Rattle.ep_audit_program.proofs.verdict.judge_lines.Goals as goal

pub loop-done-init : goal.loop-done-init
loop-done-init g c = λ limits told.
    judge_nothing limits (g.R.Read.remaining c.args.reader.now.inner) (unread c.in-Ok.past.input) c.args.judge.now c.in-Ok.ensures told

pub returns-in-Err-clause-bad : goal.returns-in-Err-clause-bad
returns-in-Err-clause-bad g c = λ limits told number q.
    bad_of (λ n. IfSome (g.R.Read.remaining c.args.reader.now.inner) (λ i. IsFirstBad n (lines_of i))) (c.next_record.new.reader.failed ≡ true) c.in-Err.fault (c.loop-done.done + 1) number c.in-Err.ensures.err
    (λ e. judge_bad limits (g.R.Read.remaining c.args.reader.now.inner) (prepend_known (unread c.loop-done.past.input) (g.R.Read.remaining c.loop-done.reader.inner)) (prepend_known (unread c.next_record.new.self.input) (g.R.Read.remaining c.next_record.new.reader.inner))
    c.next_record.new.self.line.items c.loop-done.judge c.loop-done.done (c.loop-done.invariant limits told) (c.in-Err.ensures.bad_line e) (c.in-Err.ensures.bad_fits e) (c.in-Err.ensures.bad e))
    q

pub returns-in-Err-clause-long : goal.returns-in-Err-clause-long
returns-in-Err-clause-long g c = λ limits told number q.
    long_of (λ n. IfSome (g.R.Read.remaining c.args.reader.now.inner) (λ i. IsFirstLong n (lines_of i))) (c.next_record.new.reader.failed ≡ true) c.in-Err.fault (c.loop-done.done + 1) number c.in-Err.ensures.err
    (λ e. judge_long limits (g.R.Read.remaining c.args.reader.now.inner) (prepend_known (unread c.loop-done.past.input) (g.R.Read.remaining c.loop-done.reader.inner)) c.loop-done.judge c.loop-done.done (c.loop-done.invariant limits told) (c.in-Err.ensures.long e))
    q

pub loop-done-preserved : goal.loop-done-preserved
loop-done-preserved g c = λ limits told.
    judge_more limits (g.R.Read.remaining c.args.reader.now.inner) (prepend_known (unread c.loop-done.past.input) (g.R.Read.remaining c.loop-done.reader.inner)) (prepend_known (unread c.next_record.new.self.input) (g.R.Read.remaining c.next_record.new.reader.inner))
    c.next_record.new.self.line.items c.loop-done.judge c.tell.new.self c.in-Ok-Some.record c.loop-done.done (c.loop-done.invariant limits told)
    (rw c.in-Ok-Some.field-0-is at c.in-Ok-Some.ensures.line) (rw c.in-Ok-Some.field-0-is at c.in-Ok-Some.ensures.fits) (rw c.in-Ok-Some.field-0-is at c.in-Ok-Some.ensures.some)
    (subst (λ (l : List ℕ). IsToldMore c.loop-done.judge c.tell.new.self c.loop-done.done c.in-Ok-Some.record l) c.line.ensures c.in-Ok-tell.ensures)

pub returns-in-Ok-None-clause-verdict : goal.returns-in-Ok-None-clause-verdict
returns-in-Ok-None-clause-verdict g c = λ limits told.
    judge_whole limits (g.R.Read.remaining c.args.reader.now.inner) (prepend_known (unread c.loop-done.past.input) (g.R.Read.remaining c.loop-done.reader.inner)) (prepend_known (unread c.next_record.new.self.input) (g.R.Read.remaining c.next_record.new.reader.inner))
    c.loop-done.judge c.loop-done.done c.verdict.result (c.loop-done.invariant limits told) (c.in-Ok-None.ensures.end c.in-Ok-None.field-0-is) c.verdict.ensures
