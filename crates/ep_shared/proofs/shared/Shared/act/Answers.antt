use Rattle.ep_shared.proofs.shared.Shared.act.Goals as goal

pub returns-clause-adds : goal.returns-clause-adds
returns-clause-adds g c = c.act-answer.ensures.adds
