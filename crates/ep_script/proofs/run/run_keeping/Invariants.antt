use Rattle.std.proofs.Common.{false, ◌≡◌, ◌≤◌}
use Rattle.std.specs.Io.KnownBytes.{prepend_known}
use Rattle.ep_script.specs.Outcome.{Gains}
use Rattle.ep_script.specs.Recorded.{Writes}
use Rattle.ep_script.specs.Unread.{unread}
use Rattle.ep_script.proofs.RunLemmas.{Ran}
use Rattle.ep_script.proofs.run.run_keeping.Given as goal

abbrev pub invariant-loop-done : goal.invariant-loop-done
invariant-loop-done g l = record {
  ran : Ran (g.R.Read.remaining l.fn.reader.inner) (prepend_known (unread l.input) (g.R.Read.remaining l.reader.inner)) (g.W.Write.contents l.fn.writer.inner) (g.W.Write.contents l.writer.inner) l.desk.gathered.bytes.items
      (g.K.Kernel.past l.fn.kernel) (g.K.Kernel.past l.kernel) l.desk.version l.summary;
  room : l.desk.gathered.room ≡ g.T.Keeper.room;
  gains : Gains (g.K.Kernel.past l.fn.kernel) (g.K.Kernel.past l.kernel) l.summary.records;
  lines : l.summary.lines ≡ l.done;
  records : l.summary.records ≤ l.done;
  bad : l.summary.bad ≤ l.done;
  reader_flag : l.reader.failed ≡ false;
  writer_flag : l.writer.failed ≡ false;
  history_flag : g.T.Keeper.failed l.keeper ≡ false;
  reader_once : l.reader.asked_after ≡ l.fn.reader.asked_after;
  writer_once : l.writer.asked_after ≡ l.fn.writer.asked_after;
  history_once : g.T.Keeper.asked_after l.keeper ≡ g.T.Keeper.asked_after l.fn.keeper;
  writes : Writes (g.T.Keeper.contents l.fn.keeper) (g.T.Keeper.contents l.keeper) (g.K.Kernel.past l.fn.kernel) (g.K.Kernel.past l.kernel);
  limits : g.K.Kernel.bounds l.kernel ≡ g.K.Kernel.bounds l.fn.kernel;
  taken : g.K.Kernel.taken l.kernel ≡ g.K.Kernel.taken l.fn.kernel;
}
