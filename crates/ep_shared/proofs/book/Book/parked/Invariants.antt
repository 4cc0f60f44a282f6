use Rattle.std.proofs.Common.{◌≡◌, filter, map, vec_items}
use Rattle.std.specs.List.{range_with_len}
use Rattle.ep_machine.specs.Waits.{is_parked}
use Rattle.ep_shared.proofs.book.Book.parked.Given as goal

abbrev pub invariant-loop-before : goal.invariant-loop-before
invariant-loop-before g l = map (λ c. c.0) (vec_items l.parked) ≡ filter (is_parked (g.K.Kernel.state l.self.kernel)) (range_with_len 1 l.before)
