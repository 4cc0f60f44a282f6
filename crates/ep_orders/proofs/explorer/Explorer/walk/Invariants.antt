use Rattle.std.proofs.Common.{[], ◌≡◌}
use Rattle.ep_orders.specs.Explorer.{world_in}
use Rattle.ep_orders.specs.Course.{place_of, world_of}
use Rattle.ep_orders.proofs.OrderLemmas.{Sofar}
use Rattle.ep_orders.proofs.explorer.Explorer.walk.Given as goal

abbrev pub invariant-loop-place : goal.invariant-loop-place
invariant-loop-place g l =
    let k = g.K.Kernel in
    (world_of k.bounds l.course ≡ world_in g.M.Makes.limits l.self) × (l.course.scenario.now ≡ l.self.scenario.now) × (k.taken l.course.kernel ≡ [])
    × Sofar (world_in g.M.Makes.limits l.self) l.self.scenario.now.setup.items l.fn.path.items l.path.items l.course.turns.items (k.past l.course.kernel) l.place (place_of k.state l.course)
