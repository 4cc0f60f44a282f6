use Rattle.std.specs.Io.KnownBytes.{prepend_known}
use Rattle.std.proofs.Common.{IfSome, [], rules, true, ◌+◌, ◌≡◌}
use Rattle.ep_script.specs.Lines.{lines_of}
use Rattle.ep_script.specs.ReadHistory.{IsFirstBad, IsFirstLong}
use Rattle.ep_script.specs.Unread.{unread}
use Rattle.ep_script.proofs.PastLemmas.{bad_of, long_of, read_bad, read_fit, read_long, read_more, read_nothing}
use Rattle.ep_script.proofs.past.read_history.Goals as goal

pub loop-done-init : goal.loop-done-init
loop-done-init g c =
    let none : c.new-records.result.items ≡ [] = search rules in
    rw none (read_nothing (g.R.Read.remaining c.args.reader.now.inner) (unread c.in-Ok.past.input) c.in-Ok.ensures)

pub loop-done-preserved : goal.loop-done-preserved
loop-done-preserved g c =
    rw c.in-Ok-add_record.ensures (read_more (g.R.Read.remaining c.args.reader.now.inner) (prepend_known (unread c.loop-done.past.input) (g.R.Read.remaining c.loop-done.reader.inner)) (prepend_known (unread c.next_record.new.self.input) (g.R.Read.remaining c.next_record.new.reader.inner))
    c.next_record.new.self.line.items c.loop-done.records.items c.in-Ok-Some.record c.loop-done.done c.loop-done.invariant
    (rw c.in-Ok-Some.field-0-is at c.in-Ok-Some.ensures.line) (rw c.in-Ok-Some.field-0-is at c.in-Ok-Some.ensures.fits) (rw c.in-Ok-Some.field-0-is at c.in-Ok-Some.ensures.some))

pub returns-in-Err-clause-bad : goal.returns-in-Err-clause-bad
returns-in-Err-clause-bad g c = λ number q.
    bad_of (λ n. IfSome (g.R.Read.remaining c.args.reader.now.inner) (λ i. IsFirstBad n (lines_of i))) (c.next_record.new.reader.failed ≡ true) c.in-Err.fault (c.loop-done.done + 1) number c.in-Err.ensures.err
    (λ e. read_bad (g.R.Read.remaining c.args.reader.now.inner) (prepend_known (unread c.loop-done.past.input) (g.R.Read.remaining c.loop-done.reader.inner)) (prepend_known (unread c.next_record.new.self.input) (g.R.Read.remaining c.next_record.new.reader.inner))
    c.next_record.new.self.line.items c.loop-done.records.items c.loop-done.done c.loop-done.invariant (c.in-Err.ensures.bad_line e) (c.in-Err.ensures.bad_fits e) (c.in-Err.ensures.bad e))
    q

pub returns-in-Err-clause-long : goal.returns-in-Err-clause-long
returns-in-Err-clause-long g c = λ number q.
    long_of (λ n. IfSome (g.R.Read.remaining c.args.reader.now.inner) (λ i. IsFirstLong n (lines_of i))) (c.next_record.new.reader.failed ≡ true) c.in-Err.fault (c.loop-done.done + 1) number c.in-Err.ensures.err
    (λ e. read_long (g.R.Read.remaining c.args.reader.now.inner) (prepend_known (unread c.loop-done.past.input) (g.R.Read.remaining c.loop-done.reader.inner)) c.loop-done.records.items c.loop-done.done c.loop-done.invariant (c.in-Err.ensures.long e))
    q

pub returns-in-Ok-None-clause-fit : goal.returns-in-Ok-None-clause-fit
returns-in-Ok-None-clause-fit g c =
    read_fit (g.R.Read.remaining c.args.reader.now.inner) (prepend_known (unread c.loop-done.past.input) (g.R.Read.remaining c.loop-done.reader.inner)) (prepend_known (unread c.next_record.new.self.input) (g.R.Read.remaining c.next_record.new.reader.inner))
    c.loop-done.records.items c.loop-done.done c.loop-done.invariant (c.in-Ok-None.ensures.end c.in-Ok-None.field-0-is)
