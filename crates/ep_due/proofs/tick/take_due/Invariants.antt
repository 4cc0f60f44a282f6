use Rattle.ep_due.specs.Tick.{TakesDue, due_count}
use Rattle.ep_due.proofs.tick.take_due.Given as goal

abbrev pub invariant-loop-place : goal.invariant-loop-place
invariant-loop-place g l = TakesDue l.now l.next l.initial.queue l.queue l.initial.taken.items l.taken.items

abbrev pub decreases-loop-place : goal.decreases-loop-place
decreases-loop-place g l = due_count l.now l.queue
