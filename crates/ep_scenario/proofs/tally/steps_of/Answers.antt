use Rattle.std.proofs.Common.{arith, rules}
use Rattle.std.specs.List.{zip}
use Rattle.ep_scenario.specs.Outcomes.{step_of}
use Rattle.ep_scenario.proofs.MoveLemmas.{each_end, each_next, none_at, some_at, zip_past}
use Rattle.ep_scenario.proofs.tally.steps_of.Goals as goal

pub loop-place-preserved : goal.loop-place-preserved
loop-place-preserved c =
    let at = some_at _ c.move_at.result _ _ c.move_at.ensures c.in-Some.is in
    each_next step_of (zip c.args.turns.now c.args.records.now) c.loop-place.place _ _ _ _ at (search rules) c.loop-place.invariant

pub returns-in_default : goal.returns-in_default
returns-in_default c =
    each_end step_of (zip c.args.turns.now c.args.records.now) c.loop-place.place _ _ (none_at _ c.move_at.result _ c.move_at.ensures c.in_default.is) c.loop-place.invariant

pub returns : goal.returns
returns c =
    each_end step_of (zip c.args.turns.now c.args.records.now) c.loop-place.place _ _ (zip_past c.args.turns.now c.args.records.now c.loop-place.place (omega arith)) c.loop-place.invariant
