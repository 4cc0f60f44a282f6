use Rattle.std.proofs.lemmas.List.{get_or_read}
use Rattle.ep_due.proofs.SwapLemmas.{swap_paired, swap_moments}
use Rattle.ep_due.proofs.heap.swap.Goals as goal

pub returns-clause-paired : goal.returns-clause-paired
returns-clause-paired g c = swap_paired c.args.heap.now.items c.args.places.now.items c.requires.paired c.args.i c.args.j c.requires.left c.requires.right c.index-a.result.now c.index-b.result.now (get_or_read _ _ _ c.requires.left c.index-a.ensures _) (get_or_read _ _ _ c.requires.right c.index-b.ensures _)

pub returns-clause-moments : goal.returns-clause-moments
returns-clause-moments g c = swap_moments c.args.heap.now.items c.args.places.now.items c.requires.paired c.args.i c.args.j c.requires.left c.requires.right c.index-a.result.now c.index-b.result.now (get_or_read _ _ _ c.requires.left c.index-a.ensures _) (get_or_read _ _ _ c.requires.right c.index-b.ensures _)
