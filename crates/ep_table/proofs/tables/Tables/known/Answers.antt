use Rattle.ep_table.proofs.LookupLemmas.{sound_is}
use Rattle.ep_table.proofs.tables.Tables.known.Goals as goal

pub returns : goal.returns
returns g c = sound_is c.self.inside c.args.self.now c.self.invariant c.self.view_is c.known.ensures
