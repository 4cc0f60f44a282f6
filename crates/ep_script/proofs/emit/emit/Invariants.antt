use Rattle.std.proofs.Common.{false, ◌≡◌, ◌≤◌, ◌-◌, length, take}
use Rattle.std.specs.Io.KnownBytes.{Appends}
use Rattle.ep_script.proofs.emit.emit.Given as goal

abbrev pub invariant-loop-at : goal.invariant-loop-at
invariant-loop-at g l = record {
  within : l.at ≤ length l.bytes;
  written : Appends (g.W.Write.contents l.fn.writer.inner) (g.W.Write.contents l.writer.inner) (take l.at l.bytes);
  flag : l.writer.failed ≡ l.fn.writer.failed;
  once : l.fn.writer.failed ≡ false → l.writer.asked_after ≡ l.fn.writer.asked_after;
}

abbrev pub decreases-loop-at : goal.decreases-loop-at
decreases-loop-at g l = length l.bytes - l.at
