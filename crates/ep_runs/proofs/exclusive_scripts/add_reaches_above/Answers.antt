use Rattle.std.proofs.Common.{refl}
use Rattle.ep_machine.specs.Exclusive.{is_guarded}
use Rattle.ep_machine.specs.Readiness.{is_ready}
use Rattle.ep_machine.specs.Spread.{is_reached}
use Rattle.ep_runs.proofs.exclusive_scripts.add_reaches_above.Goals as goal

pub returns-clause-run : goal.returns-clause-run
unfolding is_ready is_reached is_guarded
returns-clause-run c = refl

pub returns-clause-no_run : goal.returns-clause-no_run
unfolding is_ready is_reached is_guarded
returns-clause-no_run c = refl
