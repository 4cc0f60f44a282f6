use Rattle.std.proofs.Common.{◌+◌, ◌≡◌, drop}
use Rattle.ep_scenario.specs.Schedule.{row_of}
use Rattle.ep_scenario.proofs.schedule.row_of.Given as goal

abbrev pub invariant-loop-count : goal.invariant-loop-count
invariant-loop-count l = l.count + row_of l.step (drop l.count l.steps) ≡ row_of l.step l.steps
