use Rattle.std.proofs.Common.{map}
use Rattle.ep_scenario.specs.Outcomes.{seen_of}
use Rattle.ep_scenario.proofs.CountLemmas.{NoneUpTo}
use Rattle.ep_scenario.proofs.tally.place_of.Given as goal

abbrev pub invariant-loop-place : goal.invariant-loop-place
invariant-loop-place l = NoneUpTo l.told (map seen_of l.outcomes) l.place
