use Rattle.std.proofs.Common.{◌++◌, ◌≡◌, drop, string_bytes}
use Rattle.ep_scenario.specs.Schedule.{blocks, schedule}
use Rattle.ep_scenario.proofs.schedule.push_schedule.Given as goal

abbrev pub invariant-loop-place : goal.invariant-loop-place
invariant-loop-place l =
    string_bytes l.text ++ blocks l.lines l.is_first (drop l.place l.steps) l.left ≡ string_bytes l.fn.text ++ schedule l.lines l.steps
