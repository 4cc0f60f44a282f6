use Rattle.std.proofs.Common.{◌≡◌, ◌++◌}
use Rattle.ep_dates.specs.Ask.{Asks}
use Rattle.ep_interest.specs.Passes.{has_id}
use Rattle.ep_dates.proofs.ask.ask_turned_watchers.Given as goal

abbrev pub invariant-loop-id : goal.invariant-loop-id
invariant-loop-id l = record {
  whole : l.yielded ++ l.id-iterator ≡ l.initial.id-iterator;
  asked : Asks l.question.comes l.question.event l.parts (has_id l.yielded) l.fn.dates l.dates;
}
