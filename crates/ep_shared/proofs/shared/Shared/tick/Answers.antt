use Rattle.ep_shared.proofs.shared.Shared.tick.Goals as goal

pub returns-clause-adds : goal.returns-clause-adds
returns-clause-adds g c = c.act.ensures.adds
