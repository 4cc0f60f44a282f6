use Rattle.std.proofs.Common.{◌≡◌, length, map, max, take}
use Rattle.ep_calls.specs.Wait.{report_of}
use Rattle.ep_calls.proofs.report.reports_of.Given as goal

abbrev pub invariant-loop-x : goal.invariant-loop-x
invariant-loop-x l = (l.reports.items ≡ map report_of (take l.x-index l.chosen)) × (l.reports.capacity ≡ max 4 (length l.chosen))
