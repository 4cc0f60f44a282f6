use Rattle.ep_order.proofs.EventLemmas.{beginning_keeps_turns}
use Rattle.ep_order.proofs.law.beginning_keeps_turns.Goals as goal

pub returns : goal.returns
returns c = record { law = beginning_keeps_turns }
