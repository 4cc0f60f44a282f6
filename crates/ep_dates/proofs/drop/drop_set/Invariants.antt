use Rattle.std.proofs.Common.{◌≡◌, ◌++◌}
use Rattle.ep_dates.proofs.DropLemmas.{firsts}
use Rattle.ep_dates.specs.Drop.{Drops}
use Rattle.ep_interest.specs.Passes.{has_id}
use Rattle.ep_dates.proofs.drop.drop_set.Given as goal

abbrev pub invariant-loop-id : goal.invariant-loop-id
invariant-loop-id l = record {
  whole : firsts l.yielded ++ firsts l.id-iterator ≡ firsts l.initial.id-iterator;
  drops : Drops l.interest (has_id (firsts l.yielded)) l.fn.dates l.dates;
}
