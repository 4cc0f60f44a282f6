use Rattle.std.proofs.Common.{length, replicate, ◌++◌, ◌-◌, ◌≡◌, ◌≤◌}
use Rattle.circular_buffer.specs.Buffer.{buffer}
use Rattle.ep_stream.proofs.queue.put_run.Given as goal

abbrev pub invariant-loop-left : goal.invariant-loop-left
invariant-loop-left l = record {
  queue : l.queue ≡ buffer (l.initial.queue.items ++ replicate (l.fitting - l.left) l.byte) l.initial.queue.capacity;
  left : l.left ≤ l.fitting;
  room : l.fitting ≤ l.initial.queue.capacity - length l.initial.queue.items;
}

abbrev pub decreases-loop-left : goal.decreases-loop-left
decreases-loop-left l = l.left
