use Rattle.std.proofs.Common.{◌≡◌, ◌++◌, drop, map}
use Rattle.std.specs.List.{zip}
use Rattle.ep_scenario.specs.Outcomes.{step_of}
use Rattle.ep_scenario.proofs.tally.steps_of.Given as goal

abbrev pub invariant-loop-place : goal.invariant-loop-place
invariant-loop-place l = l.steps.items ++ map step_of (drop l.place (zip l.turns l.records)) ≡ map step_of (zip l.turns l.records)
