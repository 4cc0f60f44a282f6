use Rattle.std.proofs.Common.{◌≡◌, ◌++◌}
use Rattle.ep_dates.specs.Drop.{Drops, touches_any}
use Rattle.ep_dates.proofs.drop.drop_dying.Given as goal

abbrev pub invariant-loop-desc : goal.invariant-loop-desc
invariant-loop-desc l = record {
  whole : l.yielded ++ l.desc-iterator ≡ l.initial.desc-iterator;
  drops : Drops l.parts.interest (touches_any l.parts.interest l.yielded) l.fn.dates l.dates;
}
