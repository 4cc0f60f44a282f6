use Rattle.ep_table.proofs.UnnameLemmas.{fits_taken, takes_some}
use Rattle.ep_table.proofs.tables.Tables.take_dead.Goals as goal

pub invariant_of-self : goal.invariant_of-self
invariant_of-self g c = let f = fits_taken c.self.inside c.args.self.now c.self.invariant c.self.view_is c.known.ensures c.take_dead.new.self c.take_dead.result c.take_dead.ensures.none c.take_dead.ensures.some in record { live = f.live; counts = f.counts; living = f.living }

pub returns-clause-some : goal.returns-clause-some
returns-clause-some g c = takes_some c.self.inside c.args.self.now c.self.invariant c.self.view_is c.known.ensures c.take_dead.new.self c.take_dead.result c.take_dead.ensures.some
