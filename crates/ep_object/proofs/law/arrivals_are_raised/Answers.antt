use Rattle.ep_object.proofs.law.arrivals_are_raised.Goals as goal

pub returns-clause-apply : goal.returns-clause-apply
returns-clause-apply c = c.objects_keep_laws.ensures.laws.call_raises

pub returns-clause-close : goal.returns-clause-close
returns-clause-close c = c.objects_keep_laws.ensures.laws.close_raises

pub returns-clause-advance : goal.returns-clause-advance
returns-clause-advance c = c.objects_keep_laws.ensures.laws.clock_raises
