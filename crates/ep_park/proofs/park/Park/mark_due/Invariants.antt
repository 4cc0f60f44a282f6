use Rattle.std.proofs.Common.{map, ◌≡◌}
use Rattle.std.specs.List.{count_by}
use Rattle.ep_machine.specs.Waits.{marked_if_due}
use Rattle.ep_park.specs.Deadlines.{awaits_mark}
use Rattle.ep_park.proofs.park.Park.mark_due.Given as goal

abbrev pub invariant-loop-caller : goal.invariant-loop-caller
invariant-loop-caller g l = map (marked_if_due l.now) l.self ≡ map (marked_if_due l.now) l.initial.self

abbrev pub decreases-loop-caller : goal.decreases-loop-caller
decreases-loop-caller g l = count_by (awaits_mark l.now) l.self
