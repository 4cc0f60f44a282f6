use Rattle.std.proofs.Common.{[], ap, append-nil, arith, length, refl, ◌∙◌, ◌+◌, sym}
use Rattle.ep_script.specs.Unread.{unread}
use Rattle.ep_script.proofs.Faults.{answer_cut, answer_fault, come_fault, come_memory, come_read, come_unread, come_unwritten, cut_at_once, end_fault, lines_fault, memory_at_once, never_read, no_part, only_written, out_fault, read_cut}
use Rattle.ep_script.proofs.HistoryLemmas.{at_next, history_fault, never_script, part_of_all, part_of_line, part_unanswered, script_same, writes_more, writes_nothing}
use Rattle.ep_script.proofs.Pieces.{holds_line}
use Rattle.ep_script.proofs.RunLemmas.{ran_more, ran_nothing, ran_passed, ran_whole, ran_written}
use Rattle.ep_script.proofs.TallyLemmas.{few_bad, few_records, gains_more, one_lines}
use Rattle.ep_records.proofs.WholeLemmas.{taken_few}
use Rattle.ep_script.proofs.run.run_keeping.Goals as goal

-- ---- nothing is read yet

pub returns-in_default-clause-fault : goal.returns-in_default-clause-fault
returns-in_default-clause-fault g c = memory_at_once g.T.Keeper.room _ _ _

pub returns-in_default-clause-memory : goal.returns-in_default-clause-memory
returns-in_default-clause-memory g c = λ _. cut_at_once _ _ _

pub returns-in_default-clause-part : goal.returns-in_default-clause-part
returns-in_default-clause-part g c = part_of_all _ _ _ _ (writes_nothing (g.T.Keeper.contents c.args.keeper.now) (g.K.Kernel.past c.args.kernel.now))

pub loop-done-init : goal.loop-done-init
loop-done-init g c = record {
  ran = ran_nothing _ _ (unread c.in-Ok.input) _ _ _ c.in-Ok.ensures c.new-desk.ensures.none c.new-desk.ensures.version;
  room = c.new-desk.ensures.room ∙ c.room.ensures;
  gains = ([], sym (append-nil _), refl);
  lines = refl;
  records = omega arith;
  bad = omega arith;
  reader_flag = c.requires.fresh_reader;
  writer_flag = c.requires.fresh_writer;
  history_flag = c.requires.fresh_history;
  reader_once = refl;
  writer_once = refl;
  history_once = refl;
  writes = writes_nothing _ _;
  limits = refl;
  taken = refl;
}

-- ---- the next line

pub returns-in-Ok-false-clause-transcript : goal.returns-in-Ok-false-clause-transcript
returns-in-Ok-false-clause-transcript g c =
    ran_whole _ _ _ _ _ _ _ _ _ _ (ran_passed _ _ _ _ _ _ _ _ _ _ _ c.loop-done.invariant.ran c.in-Ok-false.ensures.ok) (c.in-Ok-false.ensures.none c.in-Ok-false.field-0-test)
    (c.in-Ok-false.ensures.end c.in-Ok-false.field-0-test)

pub returns-in-Err-clause-fault : goal.returns-in-Err-clause-fault
returns-in-Err-clause-fault g c =
    come_fault g.T.Keeper.room _ _ _ _ _ _ _ _ _ _ _ (c.loop-done.done + 1) _ _ c.in-Err.fault c.loop-done.invariant.ran (ap (λ n. n + 1) (sym c.loop-done.invariant.lines))
    (omega (arith, c.loop-done.desk.gathered.within, c.loop-done.invariant.room)) c.in-Err.ensures.err

pub returns-in-Err-clause-read : goal.returns-in-Err-clause-read
returns-in-Err-clause-read g c = λ q. come_read _ _ _ _ _ _ _ _ _ _ _ _ _ _ c.in-Err.fault c.loop-done.invariant.ran c.in-Err.ensures.err (script_same _ _ q)

pub returns-in-Err-clause-memory : goal.returns-in-Err-clause-memory
returns-in-Err-clause-memory g c = λ q. come_memory _ _ _ _ _ _ _ _ _ _ _ _ _ _ c.in-Err.fault c.loop-done.invariant.ran c.in-Err.ensures.err (script_same _ _ q)

pub returns-in-Err-clause-read_flag : goal.returns-in-Err-clause-read_flag
returns-in-Err-clause-read_flag g c = λ q. come_unread _ _ _ _ _ _ _ _ c.in-Err.fault c.in-Err.ensures.err (script_same _ _ q)

pub returns-in-Err-clause-write_flag : goal.returns-in-Err-clause-write_flag
returns-in-Err-clause-write_flag g c = λ q. come_unwritten _ _ _ _ _ _ _ _ c.in-Err.fault c.in-Err.ensures.err (script_same _ _ q)

pub returns-in-Err-clause-part : goal.returns-in-Err-clause-part
returns-in-Err-clause-part g c = part_of_all _ _ _ _ c.loop-done.invariant.writes

-- ---- its answer

pub returns-in-Err-answer_line-clause-fault : goal.returns-in-Err-answer_line-clause-fault
returns-in-Err-answer_line-clause-fault g c =
    answer_fault _ _ _ _ _ _ _ _ _ _ _ _ _ c.read_line.new.line.items (c.loop-done.done + 1) c.in-Err-answer_line.fault
    (ran_passed _ _ _ _ _ _ _ _ _ _ _ c.loop-done.invariant.ran c.in-Ok-true.ensures.ok) (c.in-Ok-true.ensures.line c.in-Ok-true.field-0-test) (ap (λ n. n + 1) (sym c.loop-done.invariant.lines))
    (omega (arith, c.read_line.new.self.within, c.read_line.ensures.room, c.loop-done.invariant.room)) (rw c.as_slice.ensures.value at c.in-Err-answer_line.ensures.err)

pub returns-in-Err-answer_line-clause-read : goal.returns-in-Err-answer_line-clause-read
returns-in-Err-answer_line-clause-read g c = λ q. never_read _ c.in-Err-answer_line.fault _ _ _ _ _ _ _ _ c.in-Err-answer_line.ensures.err (script_same _ _ q)

pub returns-in-Err-answer_line-clause-memory : goal.returns-in-Err-answer_line-clause-memory
returns-in-Err-answer_line-clause-memory g c = λ q.
    answer_cut _ _ _ _ _ _ _ _ _ _ _ _ _ _ _ c.in-Err-answer_line.fault
    (ran_passed _ _ _ _ _ _ _ _ _ _ _ c.loop-done.invariant.ran c.in-Ok-true.ensures.ok)
    (holds_line _ _ _ c.read_line.new.line.items c.read_line.new.input (c.in-Ok-true.ensures.line c.in-Ok-true.field-0-test) c.in-Ok-true.ensures.short)
    c.in-Err-answer_line.ensures.err (script_same _ _ q)

pub returns-in-Err-answer_line-clause-part : goal.returns-in-Err-answer_line-clause-part
returns-in-Err-answer_line-clause-part g c = part_unanswered _ _ _ _ _ _ _ _ _ _ _ c.in-Err-answer_line.fault c.loop-done.invariant.writes c.in-Err-answer_line.ensures.err

-- ---- its record

pub keep-requires : goal.keep-requires
keep-requires g c =
    omega (arith, ap length c.answer_line.ensures.taken, ap length c.history.ensures.taken, taken_few c.history.result.now, c.next_number-number.ensures)

pub returns-in-Err-keep-clause-fault : goal.returns-in-Err-keep-clause-fault
returns-in-Err-keep-clause-fault g c =
    let told = rw c.as_slice.ensures.value at c.in-Ok-answer_line.ensures.ok in
    history_fault _ _ _ _ _ _ _ _ _ _ c.in-Err-keep.fault
    (ran_more _ _ _ _ _ _ _ _ _ _ _ _ _ _ _ told.0 c.read_line.new.line.items (c.loop-done.done + 1)
    (ran_passed _ _ _ _ _ _ _ _ _ _ _ c.loop-done.invariant.ran c.in-Ok-true.ensures.ok) (c.in-Ok-true.ensures.line c.in-Ok-true.field-0-test) c.in-Ok-true.ensures.short told.1 told.2
    (ap (λ n. n + 1) (sym c.loop-done.invariant.lines)))
    (omega (arith, c.answer_line.new.desk.gathered.within, c.answer_line.ensures.room, c.read_line.ensures.room, c.loop-done.invariant.room)) c.in-Err-keep.ensures.none_waits c.in-Err-keep.ensures.err

pub returns-in-Err-keep-clause-read : goal.returns-in-Err-keep-clause-read
returns-in-Err-keep-clause-read g c = λ q. never_script _ c.in-Err-keep.fault _ c.in-Err-keep.ensures.err q

pub returns-in-Err-keep-clause-memory : goal.returns-in-Err-keep-clause-memory
returns-in-Err-keep-clause-memory g c = λ q. never_script _ c.in-Err-keep.fault _ c.in-Err-keep.ensures.err q

pub returns-in-Err-keep-clause-part : goal.returns-in-Err-keep-clause-part
returns-in-Err-keep-clause-part g c =
    let told = rw c.as_slice.ensures.value at c.in-Ok-answer_line.ensures.ok in
    part_of_line _ _ _ _ _ _ told.1.outcome _ c.in-Err-keep.ensures.part.0 c.loop-done.invariant.writes told.1.grows (at_next _ _ _ c.next_number-number.ensures (ap length c.history.ensures.past)) c.in-Err-keep.ensures.part.1

pub loop-done-preserved : goal.loop-done-preserved
loop-done-preserved g c =
    let told = rw c.as_slice.ensures.value at c.in-Ok-answer_line.ensures.ok in
    let counted = c.with-summary.ensures in
    record {
      ran = rw counted (ran_more _ _ _ _ _ _ _ _ _ _ _ _ _ _ _ told.0 c.read_line.new.line.items (c.loop-done.done + 1)
          (ran_passed _ _ _ _ _ _ _ _ _ _ _ c.loop-done.invariant.ran c.in-Ok-true.ensures.ok) (c.in-Ok-true.ensures.line c.in-Ok-true.field-0-test) c.in-Ok-true.ensures.short told.1 told.2
          (ap (λ n. n + 1) (sym c.loop-done.invariant.lines)));
      room = c.answer_line.ensures.room ∙ c.read_line.ensures.room ∙ c.loop-done.invariant.room;
      gains = rw counted (gains_more _ _ _ _ _ told.1.outcome c.loop-done.invariant.gains told.1.grows told.1.kind_is);
      lines = rw counted (one_lines c.loop-done.summary c.in-Ok-answer_line.kind ∙ ap (λ n. n + 1) c.loop-done.invariant.lines);
      records = rw counted (omega (arith, few_records c.loop-done.summary c.in-Ok-answer_line.kind));
      bad = rw counted (omega (arith, few_bad c.loop-done.summary c.in-Ok-answer_line.kind));
      reader_flag = c.in-Ok-true.ensures.reader_flag ∙ c.loop-done.invariant.reader_flag;
      writer_flag = c.in-Ok-answer_line.ensures.flag ∙ c.in-Ok-true.ensures.writer_flag ∙ c.loop-done.invariant.writer_flag;
      history_flag = c.in-Ok-keep.ensures.flag ∙ c.loop-done.invariant.history_flag;
      reader_once = c.in-Ok-true.ensures.reader_once c.loop-done.invariant.reader_flag ∙ c.loop-done.invariant.reader_once;
      writer_once = c.in-Ok-answer_line.ensures.once (c.in-Ok-true.ensures.writer_flag ∙ c.loop-done.invariant.writer_flag) ∙ c.in-Ok-true.ensures.writer_once c.loop-done.invariant.writer_flag ∙ c.loop-done.invariant.writer_once;
      history_once = c.in-Ok-keep.ensures.once c.loop-done.invariant.history_flag ∙ c.loop-done.invariant.history_once;
      writes = writes_more _ _ _ _ _ _ told.1.outcome _ c.loop-done.invariant.writes told.1.grows (at_next _ _ _ c.next_number-number.ensures (ap length c.history.ensures.past)) c.in-Ok-keep.ensures.ok;
      limits = c.answer_line.ensures.limits ∙ c.loop-done.invariant.limits;
      taken = c.answer_line.ensures.taken ∙ c.loop-done.invariant.taken;
    }

-- ---- behind the last line that may be

pub returns-in-Err-write_out-clause-fault : goal.returns-in-Err-write_out-clause-fault
returns-in-Err-write_out-clause-fault g c =
    out_fault _ _ _ _ _ _ _ _ _ _ _ _ c.in-Err-write_out.fault c.loop-done.invariant.ran (omega (arith, c.loop-done.desk.gathered.within, c.loop-done.invariant.room)) c.in-Err-write_out.ensures.err

pub returns-in-Err-write_out-clause-read : goal.returns-in-Err-write_out-clause-read
returns-in-Err-write_out-clause-read g c = λ q. only_written _ _ _ _ _ c.in-Err-write_out.ensures.err (script_same _ _ q) (λ e. cc)

pub returns-in-Err-write_out-clause-memory : goal.returns-in-Err-write_out-clause-memory
returns-in-Err-write_out-clause-memory g c = λ q. only_written _ _ _ _ _ c.in-Err-write_out.ensures.err (script_same _ _ q) (λ e. cc)

pub returns-in-Err-write_out-clause-part : goal.returns-in-Err-write_out-clause-part
returns-in-Err-write_out-clause-part g c = part_of_all _ _ _ _ c.loop-done.invariant.writes

pub returns-in-Ok-true-has_more-clause-fault : goal.returns-in-Ok-true-has_more-clause-fault
returns-in-Ok-true-has_more-clause-fault g c =
    lines_fault g.T.Keeper.room _ _ _ _ _ _ _ _ _ _ (ran_written _ _ _ _ _ _ _ _ _ _ c.loop-done.invariant.ran c.in-Ok-write_out.ensures.ok) (c.loop-done.invariant.lines ∙ omega arith) c.in-Ok-true-has_more.ensures.ok
    (c.in-Ok-true-has_more.ensures.some c.in-Ok-true-has_more.field-0-test)

pub returns-in-Ok-true-has_more-clause-part : goal.returns-in-Ok-true-has_more-clause-part
returns-in-Ok-true-has_more-clause-part g c = part_of_all _ _ _ _ c.loop-done.invariant.writes

pub returns-in-Ok-false-has_more-clause-transcript : goal.returns-in-Ok-false-has_more-clause-transcript
returns-in-Ok-false-has_more-clause-transcript g c =
    ran_whole _ _ _ _ _ _ _ _ _ _ (ran_written _ _ _ _ _ _ _ _ _ _ c.loop-done.invariant.ran c.in-Ok-write_out.ensures.ok) refl (c.in-Ok-false-has_more.ensures.none c.in-Ok-false-has_more.field-0-test)

pub returns-clause-fault : goal.returns-clause-fault
returns-clause-fault g c =
    end_fault g.T.Keeper.room _ _ _ _ _ _ _ _ c.in-Err-has_more.fault c.in-Err-has_more.ensures.err.0 (ran_written _ _ _ _ _ _ _ _ _ _ c.loop-done.invariant.ran c.in-Ok-write_out.ensures.ok)

pub returns-clause-read : goal.returns-clause-read
returns-clause-read g c = λ q.
    read_cut _ _ _ _ _ _ _ _ _ (ran_written _ _ _ _ _ _ _ _ _ _ c.loop-done.invariant.ran c.in-Ok-write_out.ensures.ok) (no_part _ _ c.in-Err-has_more.ensures.kept)

pub returns-clause-part : goal.returns-clause-part
returns-clause-part g c = part_of_all _ _ _ _ c.loop-done.invariant.writes
