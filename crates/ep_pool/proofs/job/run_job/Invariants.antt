use Rattle.std.proofs.Common.{◌≡◌, ◌++◌, length}
use Rattle.std.specs.Vec.Iter.{into_iter_items}
use Rattle.ep_shared.specs.Sessions.{caller_of, records_of}
use Rattle.ep_pool.specs.Steps.{StepsAdd}
use Rattle.ep_pool.proofs.job.run_job.Given as goal

abbrev pub invariant-loop-step : goal.invariant-loop-step
invariant-loop-step g l = record {
  parts : into_iter_items l.initial.step-iterator ≡ l.yielded ++ into_iter_items l.step-iterator;
  count : length l.yielded ≡ l.made;
  caller : caller_of l.session ≡ caller_of l.fn.job.session;
  adds : StepsAdd (caller_of l.fn.job.session) (records_of l.fn.job.session) (records_of l.session) l.yielded;
}
