use Rattle.std.proofs.Common.{arith}
use Rattle.std.specs.List.{zip}
use Rattle.ep_scenario.specs.Outcomes.{told_to}
use Rattle.ep_scenario.proofs.MoveLemmas.{none_at, some_at, texts_end, texts_next, zip_past}
use Rattle.ep_scenario.proofs.outcome.push_line.Goals as goal

pub loop-place-preserved : goal.loop-place-preserved
loop-place-preserved c =
    let at = some_at _ c.move_at.result _ _ c.move_at.ensures c.in-Some.is in
    texts_next (told_to c.args.version c.args.number) (zip c.args.turns.now c.args.records.now) c.loop-place.place _ _ _ _ at c.in_ok-push_turn.ensures c.loop-place.invariant

pub returns-in_default : goal.returns-in_default
returns-in_default c =
    texts_end (told_to c.args.version c.args.number) (zip c.args.turns.now c.args.records.now) c.loop-place.place _ _ (none_at _ c.move_at.result _ c.move_at.ensures c.in_default.is) c.loop-place.invariant

pub returns : goal.returns
returns c =
    texts_end (told_to c.args.version c.args.number) (zip c.args.turns.now c.args.records.now) c.loop-place.place _ _ (zip_past c.args.turns.now c.args.records.now c.loop-place.place (omega arith)) c.loop-place.invariant
