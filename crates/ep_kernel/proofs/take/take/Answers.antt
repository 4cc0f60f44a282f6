use Rattle.std.proofs.Common.{◌<◌, arith, length}
use Rattle.ep_kernel.specs.Take.{key_stays}
use Rattle.ep_kernel.proofs.TakeLemmas.{takes_more}
use Rattle.ep_kernel.proofs.take.take.Goals as goal
use Rattle.ep_ready.specs.ReadyLists.{list_at}

pub loop-preserved : goal.loop-preserved
loop-preserved c =
    let less : c.loop.counter < length (list_at c.args.lists.now c.args.instance.0) = omega (arith, c.loop-test.true, c.requires) in
    takes_more (key_stays c.args.step c.args.interest.now) c.args.lists.now c.loop.lists c.take_front.new.lists c.args.instance.0 c.loop.counter less c.loop.invariant c.take_front.ensures
