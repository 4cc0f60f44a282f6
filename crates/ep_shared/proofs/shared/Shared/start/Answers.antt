use Rattle.ep_shared.proofs.shared.Shared.start.Goals as goal

pub returns-clause-limits : goal.returns-clause-limits
returns-clause-limits g c = c.limits-limits.ensures
