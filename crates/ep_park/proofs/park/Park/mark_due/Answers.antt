use Rattle.std.proofs.Common.{ap, arith, map, ◌∙◌}
use Rattle.std.specs.List.{count_by}
use Rattle.ep_machine.specs.Waits.{marked_if_due}
use Rattle.ep_park.proofs.DeadlineLemmas.{fewer_await, same_when_due}
use Rattle.ep_park.proofs.ViewLemmas.{found_any}
use Rattle.ep_park.specs.Deadlines.{awaits_mark}
use Rattle.ep_park.specs.Waiters.{is_caller}
use Rattle.ep_park.proofs.park.Park.mark_due.Goals as goal

pub set_mark-requires : goal.set_mark-requires
set_mark-requires g c = found_any (is_caller c.in-Some.caller.0) c.in-Some.ensures.waiter c.loop-caller.self c.in-Some.ensures.there

pub loop-caller-smaller : goal.loop-caller-smaller
loop-caller-smaller g c =
    omega (arith, ap (count_by (awaits_mark c.args.now)) c.set_mark.ensures, fewer_await c.args.now c.in-Some.caller.0 c.loop-caller.self c.in-Some.ensures)

pub loop-caller-preserved : goal.loop-caller-preserved
loop-caller-preserved g c =
    ap (map (marked_if_due c.args.now)) c.set_mark.ensures
    ∙ (same_when_due c.args.now c.in-Some.caller.0 c.loop-caller.self c.in-Some.ensures ∙ c.loop-caller.invariant)
