use Rattle.std.proofs.Common.{◌≡◌, ◌++◌, filter}
use Rattle.ep_orders.specs.Place.{may_go, others}
use Rattle.ep_orders.specs.Course.{place_of, world_of}
use Rattle.ep_orders.proofs.course.Course.add_others.Given as goal

abbrev pub invariant-loop-number : goal.invariant-loop-number
invariant-loop-number g l =
    l.ways.items ≡ l.fn.ways.items ++ filter (may_go (world_of g.K.Kernel.bounds l.self) (place_of g.K.Kernel.state l.self) l.moment) (others l.self.last l.number)
