use Rattle.std.proofs.Common.{arith, ◌∙◌, ap, refl, List, slice_index_or, slice_set}
use Rattle.ep_exports.specs.Watches.{flat_watch}
use Rattle.ep_flat.proofs.Overlaid.{overlaid-step}
use Rattle.ep_flat.specs.declared.flat.FlatWatch.{FlatWatch}
use Rattle.ep_kernel.specs.declared.watches.Watch.{Watch}
use Rattle.ep_exports.proofs.watches.put_watches.Goals as goal

pub loop-at-preserved : goal.loop-at-preserved
loop-at-preserved c =
    let told = c.index-told-at.result in
    let i = c.loop-at.at in let given : List Watch = c.args.told.now in let old : List FlatWatch = c.args.room.now in
    let past = c.args.past.now in (
      omega (arith, c.loop-at-test.true),
      omega (arith, c.if-at-room.true, c.loop-at.auto, c.loop-at.invariant),
      refl,
      ap (λ (w : FlatWatch). slice_set c.loop-at.room i w) (c.flat_watch.ensures ∙ ap (λ (x : Watch). flat_watch past x) c.index-told-at.is)
          ∙ ap (λ (l : List FlatWatch). slice_set l i (flat_watch past (slice_index_or given i told))) c.loop-at.invariant.3
          ∙ overlaid-step (flat_watch past) told i given old (omega (arith, c.loop-at-test.true)) (omega (arith, c.if-at-room.true, c.loop-at.auto)),
    )
