use Rattle.std.proofs.Common.{refl}
use Rattle.ep_machine.specs.Readiness.{is_ready}
use Rattle.ep_machine.specs.Spread.{is_reached}
use Rattle.ep_runs.proofs.connections.early_client.Goals as goal

pub returns-clause-run : goal.returns-clause-run
unfolding is_ready is_reached
returns-clause-run c = refl

pub returns-clause-no_run : goal.returns-clause-no_run
unfolding is_ready is_reached
returns-clause-no_run c = refl
