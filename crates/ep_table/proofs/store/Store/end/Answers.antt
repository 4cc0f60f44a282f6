use Rattle.std.proofs.Common.{sym}
use Rattle.ep_table.proofs.StoreLemmas.{side_is}
use Rattle.ep_table.proofs.store.Store.end.Goals as goal

pub returns : goal.returns
returns g c = sym (side_is c.self.inside c.args.self.now c.self.invariant c.self.view_is c.args.key c.index.result.now c.index.ensures)
