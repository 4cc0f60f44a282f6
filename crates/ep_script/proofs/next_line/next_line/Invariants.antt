use Rattle.std.proofs.Common.{false, length, ◌++◌, ◌-◌, ◌≡◌, ◌≤◌}
use Rattle.std.specs.Io.KnownBytes.{prepend_known}
use Rattle.ep_script.specs.Known.{Leads}
use Rattle.ep_script.specs.Lines.{IsPlain}
use Rattle.ep_script.specs.Unread.{unread}
use Rattle.ep_script.proofs.next_line.next_line.Given as goal

abbrev pub invariant-chunks : goal.invariant-chunks
invariant-chunks g l = record {
  bytes : Leads (prepend_known (unread l.fn.input) (g.R.Read.remaining l.fn.reader.inner)) (prepend_known (unread l.input) (g.R.Read.remaining l.reader.inner)) (λ xs ys. xs ≡ l.line.items ++ ys);
  plain : IsPlain l.line.items;
  short : length l.line.items ≤ l.fn.most;
  flag : l.reader.failed ≡ l.fn.reader.failed;
  once : l.fn.reader.failed ≡ false → l.reader.asked_after ≡ l.fn.reader.asked_after;
}

abbrev pub decreases-chunks : goal.decreases-chunks
decreases-chunks g l = l.fn.most - length l.line.items
