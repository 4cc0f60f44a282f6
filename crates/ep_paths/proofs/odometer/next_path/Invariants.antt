use Rattle.std.proofs.Common.{◌≡◌, ◌++◌, List, length}
use Rattle.std.specs.List.{AllByRecursion}
use Rattle.ep_paths.specs.declared.choice.Choice.{Choice}
use Rattle.ep_paths.specs.Paths.{IsLast}
use Rattle.ep_paths.proofs.odometer.next_path.Given as goal

abbrev pub invariant-loop-choice : goal.invariant-loop-choice
invariant-loop-choice l =
    (gone : List Choice) × (l.initial.path.items ≡ l.path.items ++ gone) × AllByRecursion IsLast gone

abbrev pub decreases-loop-choice : goal.decreases-loop-choice
decreases-loop-choice l = length l.path.items
