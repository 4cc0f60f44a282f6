use Rattle.ep_climb.proofs.climbing.climb.Goals as goal

pub freshen-requires : goal.freshen-requires
freshen-requires c = (c.args.step, c.reach.ensures.reached)

pub returns-clause-rises : goal.returns-clause-rises
returns-clause-rises c = c.freshen.ensures.rises c.args.step c.reach.ensures.reached
