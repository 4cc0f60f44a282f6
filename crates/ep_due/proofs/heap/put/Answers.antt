use Rattle.std.proofs.Common.{◌≡◌, ◌∙◌}
use Rattle.std.proofs.lemmas.List.{get_or_read}
use Rattle.ep_due.specs.Heap.{index_of}
use Rattle.ep_due.proofs.PlaceLemmas.{put_moments}
use Rattle.ep_due.proofs.heap.put.Goals as goal

pub returns-clause-moments : goal.returns-clause-moments
returns-clause-moments g c =
    let is : c.index-at.result.now ≡ index_of c.args.places.now.items c.args.place = get_or_read _ _ _ c.requires.known c.index-at.ensures _ in
    c.settle.ensures.moments ∙ put_moments c.args.live c.args.heap.now.items c.args.places.now.items c.args.place c.index-at.result.now c.args.moment c.requires.paired c.requires.within c.requires.known c.requires.used is
