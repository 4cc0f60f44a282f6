use Rattle.std.proofs.Common.{refl}
use Rattle.ep_runs.proofs.connections.listener_closes.Goals as goal

pub returns-clause-told : goal.returns-clause-told
returns-clause-told c = refl

pub returns-clause-client : goal.returns-clause-client
returns-clause-client c = refl
