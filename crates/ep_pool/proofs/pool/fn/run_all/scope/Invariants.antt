use Rattle.std.proofs.Common.{◌≡◌, ◌++◌, map, vec_items}
use Rattle.std.specs.Vec.Iter.{into_iter_items}
use Rattle.ep_pool.proofs.pool.fn.run_all.scope.Given as goal

abbrev pub invariant-loop-job : goal.invariant-loop-job
invariant-loop-job g l = (into_iter_items l.initial.job-iterator ≡ l.yielded ++ into_iter_items l.job-iterator) × (map (λ h. h.promise.0.value) (vec_items l.handles) ≡ l.yielded)
