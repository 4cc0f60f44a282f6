use Rattle.ep_law.proofs.MarkLemmas.{woken_marked}
use Rattle.ep_law.proofs.laws.woken_waiters_are_marked.Goals as goal

pub returns : goal.returns
returns c = record { law = woken_marked }
