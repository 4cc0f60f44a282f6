use Rattle.std.proofs.Common.{◌≡◌, false}
use Rattle.std.specs.List.{list_any, range_with_len}
use Rattle.ep_orders.specs.Place.{can_go}
use Rattle.ep_orders.specs.Course.{place_of, world_of}
use Rattle.ep_orders.proofs.course.Course.can_any_go.Given as goal

abbrev pub invariant-loop-number : goal.invariant-loop-number
invariant-loop-number g l =
    list_any (can_go (world_of g.K.Kernel.bounds l.self) (place_of g.K.Kernel.state l.self)) (range_with_len 0 l.number) ≡ false
