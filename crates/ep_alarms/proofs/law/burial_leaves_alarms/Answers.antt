use Rattle.ep_alarms.proofs.BurialLemmas.{set_buried}
use Rattle.ep_alarms.proofs.law.burial_leaves_alarms.Goals as goal

pub returns : goal.returns
returns c = set_buried
