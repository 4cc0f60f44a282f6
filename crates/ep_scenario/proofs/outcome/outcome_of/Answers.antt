use Rattle.std.proofs.Common.{◌∙◌, ◌++◌, ◌∷◌, [], ap, refl}
use Rattle.std.specs.List.{zip}
use Rattle.ep_scenario.specs.Outcomes.{told_all}
use Rattle.ep_scenario.proofs.MoveLemmas.{numbers_next}
use Rattle.ep_scenario.proofs.outcome.outcome_of.Goals as goal

pub loop-number-preserved : goal.loop-number-preserved
loop-number-preserved c =
    numbers_next (told_all c.args.version (zip c.args.turns.now c.args.records.now)) c.loop-number.number _ _ (10 ∷ []) _ c.loop-number.invariant refl
    (c.in_ok-push_str.ensures.bytes ∙ ap (λ t. t ++ 10 ∷ []) c.in_ok-push_line.ensures)
