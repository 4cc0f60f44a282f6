use Rattle.std.proofs.Common.{◌≡◌, ◌++◌, List, take}
use Rattle.ep_base.specs.declared.record.Record.{Record}
use Rattle.ep_orders.specs.Orders.{SetsUp}
use Rattle.ep_orders.proofs.course.set_up.Given as goal

abbrev pub invariant-loop-asked : goal.invariant-loop-asked
invariant-loop-asked g l =
    let k = g.K.Kernel in
    (records : List Record) × (k.past l.kernel ≡ k.past l.fn.kernel ++ records) × (k.bounds l.kernel ≡ k.bounds l.fn.kernel)
    × (k.taken l.kernel ≡ k.taken l.fn.kernel)
    × SetsUp (k.bounds l.fn.kernel) (k.state l.fn.kernel) (take l.asked-index l.setup) records (k.state l.kernel)
