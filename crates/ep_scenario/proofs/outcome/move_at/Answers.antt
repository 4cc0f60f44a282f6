use Rattle.std.proofs.Common.{◌∙◌, sym}
use Rattle.ep_scenario.proofs.MoveLemmas.{none_at, some_at, zip_at, zip_first_ends, zip_second_ends}
use Rattle.ep_scenario.proofs.outcome.move_at.Goals as goal

pub returns-in_default : goal.returns-in_default
returns-in_default c =
    sym (zip_first_ends c.args.turns.now c.args.records.now c.args.place (sym c.turn_at.ensures ∙ c.in_default.is))

pub returns-in_default-record_at : goal.returns-in_default-record_at
returns-in_default-record_at c =
    sym (zip_second_ends c.args.turns.now c.args.records.now c.args.place (none_at _ c.record_at.result _ c.record_at.ensures c.in_default-record_at.is))

pub returns : goal.returns
returns c =
    sym (zip_at c.args.turns.now c.args.records.now c.args.place _ _ (sym c.turn_at.ensures ∙ c.in-Some.is) (some_at _ c.record_at.result _ _ c.record_at.ensures c.in-Some-record_at.is))
