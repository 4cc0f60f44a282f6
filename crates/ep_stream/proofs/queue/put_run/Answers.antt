use Rattle.std.proofs.Common.{arith}
use Rattle.std.proofs.lemmas.List.{take-replicate}
use Rattle.ep_stream.proofs.Runs.{run_goes_on}
use Rattle.ep_stream.proofs.queue.put_run.Goals as goal

pub loop-left-preserved : goal.loop-left-preserved
loop-left-preserved c =
    let l = c.loop-left in
    let put = c.min-put.result in
    record {
      queue = run_goes_on c.args.queue.now.items _ c.args.queue.now.capacity c.args.byte c.min-fitting.result l.left put _ l.queue _
          l.invariant.queue (omega (arith, c.min-put.ensures)) l.invariant.left l.invariant.room
          (take-replicate put 256 c.args.byte (omega (arith, c.min-put.ensures)))
          c.fill_from_slice.ensures.count c.fill_from_slice.ensures.items;
      left = omega (arith, l.invariant.left);
      room = l.invariant.room;
    }
