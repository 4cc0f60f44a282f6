use Rattle.std.proofs.Common.{refl}
use Rattle.ep_runs.proofs.connections.connects.Goals as goal

pub returns-clause-found : goal.returns-clause-found
returns-clause-found c = refl

pub returns-clause-told : goal.returns-clause-told
returns-clause-told c = refl

pub returns-clause-listener : goal.returns-clause-listener
returns-clause-listener c = refl

pub returns-clause-client : goal.returns-clause-client
returns-clause-client c = refl
