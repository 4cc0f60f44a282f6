use Rattle.std.proofs.Common.{◌≡◌, length, map, max, take}
use Rattle.ep_calls.specs.declared.wait.Reportable.{Reportable}
use Rattle.ep_calls.proofs.report.picked_of.Given as goal

abbrev pub invariant-loop-x : goal.invariant-loop-x
invariant-loop-x l = (l.picked.items ≡ map (λ (x : Reportable). x.entry.number) (take l.x-index l.chosen)) × (l.picked.capacity ≡ max 4 (length l.chosen))
