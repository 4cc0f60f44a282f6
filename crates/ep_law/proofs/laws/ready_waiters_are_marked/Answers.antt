use Rattle.ep_law.proofs.MarkLemmas.{ready_marked}
use Rattle.ep_law.proofs.laws.ready_waiters_are_marked.Goals as goal

pub returns : goal.returns
returns c = record { law = ready_marked }
