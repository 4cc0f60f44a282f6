use Rattle.std.proofs.Common.{◌≡◌, ◌++◌, map, vec_items}
use Rattle.std.specs.Prelude.{flat_map}
use Rattle.std.specs.Vec.Iter.{into_iter_items}
use Rattle.ep_shared.specs.Sessions.{caller_of}
use Rattle.ep_pool.specs.Jobs.{stop_of}
use Rattle.ep_pool.proofs.pool.report.Given as goal

abbrev pub invariant-loop-one : goal.invariant-loop-one
invariant-loop-one g l = (into_iter_items l.initial.one-iterator ≡ l.yielded ++ into_iter_items l.one-iterator) × (vec_items l.sessions ≡ map (λ r. r.session) l.yielded) × (vec_items l.stopped ≡ flat_map (λ r. stop_of (caller_of r.session) r.stopped) l.yielded)
