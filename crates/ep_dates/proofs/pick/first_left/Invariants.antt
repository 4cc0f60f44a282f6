use Rattle.std.proofs.Common.{◌≡◌, ◌++◌}
use Rattle.ep_dates.proofs.PickLemmas.{numbers}
use Rattle.ep_dates.specs.Pick.{AreFlagged}
use Rattle.ep_dates.proofs.pick.first_left.Given as goal

abbrev pub invariant-loop-id : goal.invariant-loop-id
invariant-loop-id l = record {
  whole : l.yielded ++ l.id-iterator ≡ l.initial.id-iterator;
  flagged : AreFlagged (numbers l.yielded) l.flags.reached;
}
