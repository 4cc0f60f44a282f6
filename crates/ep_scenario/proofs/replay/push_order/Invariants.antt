use Rattle.std.proofs.Common.{◌++◌, ◌≡◌, drop}
use Rattle.ep_scenario.specs.Reading.{plan_of}
use Rattle.ep_scenario.specs.Replay.{play, played}
use Rattle.ep_scenario.proofs.replay.push_order.Given as goal

abbrev pub invariant-loop-place : goal.invariant-loop-place
invariant-loop-place l =
    l.text.items ++ played (plan_of l.script) l.done.items (drop l.place l.steps) ≡ l.fn.text.items ++ play (plan_of l.script) l.steps
