use Rattle.std.proofs.Common.{refl}
use Rattle.ep_runs.proofs.connections.accepts.Goals as goal

pub returns-clause-number : goal.returns-clause-number
returns-clause-number c = refl

pub returns-clause-listener : goal.returns-clause-listener
returns-clause-listener c = refl

pub returns-clause-end : goal.returns-clause-end
returns-clause-end c = refl
