use Rattle.std.proofs.lemmas.Result.{IfOk-weaker}
use Rattle.ep_scenario.proofs.tally.count_outcomes.Goals as goal

pub returns : goal.returns
returns g c = IfOk-weaker c.explore.result.end _ _ (λ whole h. (c.new-fresh.result, c.new-fresh.ensures, h)) c.explore.ensures
