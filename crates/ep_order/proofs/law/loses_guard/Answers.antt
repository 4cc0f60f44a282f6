use Rattle.ep_order.proofs.GuardLemmas.{loses_guard}
use Rattle.ep_order.proofs.law.loses_guard.Goals as goal

pub returns : goal.returns
returns c = record { law = loses_guard }
