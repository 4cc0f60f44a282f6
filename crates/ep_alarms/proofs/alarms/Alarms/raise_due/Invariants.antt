use Rattle.ep_alarms.proofs.DueLemmas.{RaisesDue}
use Rattle.ep_alarms.proofs.LeftLemmas.{count_due}
use Rattle.ep_alarms.proofs.alarms.Alarms.raise_due.Given as goal
use Rattle.ep_table.specs.Live.{live_ids}

abbrev pub invariant-loop-desc : goal.invariant-loop-desc
invariant-loop-desc l = RaisesDue l.tables l.since l.now l.step l.fn.interest l.self l.interest

abbrev pub decreases-loop-desc : goal.decreases-loop-desc
decreases-loop-desc l = count_due l.now l.self (live_ids l.tables.keys)
