use Rattle.ep_object.proofs.OwnEndLemmas.{call_ends_here_only, clock_ends_nothing, close_ends_nothing}
use Rattle.ep_order.proofs.law.bits_end_where_called.Goals as goal

pub returns-clause-call : goal.returns-clause-call
returns-clause-call c = call_ends_here_only

pub returns-clause-close : goal.returns-clause-close
returns-clause-close c = close_ends_nothing

pub returns-clause-clock : goal.returns-clause-clock
returns-clause-clock c = clock_ends_nothing
