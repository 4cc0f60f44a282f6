use Rattle.std.proofs.Common.{◌≡◌, List, length}
use Rattle.ep_paths.specs.Paths.{Follows, Taken}
use Rattle.ep_paths.proofs.EveryLemmas.{Stage}
use Rattle.ep_paths.proofs.runs.run_all.Given as goal

abbrev pub invariant-loop : goal.invariant-loop
invariant-loop g l =
    (made : List (List (Taken g.row.R-Given.Denot))) × Follows g.R.Runs.told l.fn.runs made l.runs × (length made ≡ l.counter)
    × Stage made l.path.items (g.R.Runs.given l.runs)
