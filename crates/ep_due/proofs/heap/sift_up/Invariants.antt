use Rattle.std.proofs.Common.{◌≡◌, ◌<◌, length}
use Rattle.ep_due.specs.Heap.{ArePaired, LiftedAt}
use Rattle.ep_due.specs.DueQueue.{moments}
use Rattle.ep_due.proofs.heap.sift_up.Given as goal

abbrev pub invariant-loop-at : goal.invariant-loop-at
invariant-loop-at g l = record {
  paired : ArePaired l.heap.items l.places.items;
  inside : l.at < l.live;
  lifted : LiftedAt l.live l.heap.items l.at;
  moments : moments l.live l.heap.items l.places.items ≡ moments l.live l.initial.heap.items l.initial.places.items;
  len : length l.heap.items ≡ length l.initial.heap.items;
}

abbrev pub decreases-loop-at : goal.decreases-loop-at
decreases-loop-at g l = l.at
