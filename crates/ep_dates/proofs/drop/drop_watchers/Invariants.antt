use Rattle.std.proofs.Common.{◌≡◌, ◌++◌}
use Rattle.ep_dates.specs.Drop.{Drops}
use Rattle.ep_interest.specs.Passes.{has_id}
use Rattle.ep_dates.proofs.drop.drop_watchers.Given as goal

abbrev pub invariant-loop-id : goal.invariant-loop-id
invariant-loop-id l = record {
  whole : l.yielded ++ l.id-iterator ≡ l.initial.id-iterator;
  drops : Drops l.interest (has_id l.yielded) l.fn.dates l.dates;
}
