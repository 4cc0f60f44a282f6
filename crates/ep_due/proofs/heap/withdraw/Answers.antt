use Rattle.std.proofs.Common.{◌≡◌, ◌∙◌, ◌+◌, arith}
use Rattle.std.proofs.lemmas.List.{get_or_read}
use Rattle.ep_due.specs.Heap.{index_of}
use Rattle.ep_due.proofs.PlaceLemmas.{withdraw_moments}
use Rattle.ep_due.proofs.heap.withdraw.Goals as goal

pub returns-then-at-last-clause-moments : goal.returns-then-at-last-clause-moments
returns-then-at-last-clause-moments g c =
    let is : c.index-at.result.now ≡ index_of c.args.places.now.items c.args.place = get_or_read _ _ _ c.requires.known c.index-at.ensures _ in
    c.settle.ensures.moments ∙ withdraw_moments c.args.heap.now.items c.swap.new.heap.items c.args.places.now.items c.swap.new.places.items c.index-at.result.now c.args.last c.args.place c.requires.paired c.swap.ensures.paired c.swap.ensures.swapped c.requires.within c.requires.known is (c.swap.ensures.moments (c.args.last + 1) (omega arith) (omega arith))

pub returns-else-at-last-clause-moments : goal.returns-else-at-last-clause-moments
returns-else-at-last-clause-moments g c =
    let is : c.index-at.result.now ≡ index_of c.args.places.now.items c.args.place = get_or_read _ _ _ c.requires.known c.index-at.ensures _ in
    let inner = c.requires.used in
    withdraw_moments c.args.heap.now.items c.swap.new.heap.items c.args.places.now.items c.swap.new.places.items c.index-at.result.now c.args.last c.args.place c.requires.paired c.swap.ensures.paired c.swap.ensures.swapped c.requires.within c.requires.known is (c.swap.ensures.moments (c.args.last + 1) (omega arith) (omega arith))
