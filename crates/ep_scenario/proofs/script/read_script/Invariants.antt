use Rattle.std.proofs.Common.{◌≡◌, ◌+◌}
use Rattle.ep_scenario.specs.Lines.{lines_of}
use Rattle.ep_scenario.specs.Reading.{blank, plan_of, with_texts}
use Rattle.ep_scenario.proofs.script.read_script.Given as goal

abbrev pub invariant-loop-done : goal.invariant-loop-done
invariant-loop-done l = with_texts (l.done + 1) (plan_of l.script) (lines_of l.rest) ≡ with_texts 1 blank (lines_of l.text)
