use Rattle.ep_table.proofs.StoreLemmas.{object_found, object_there}
use Rattle.ep_table.proofs.store.Store.object.Goals as goal

pub index-requires : goal.index-requires
index-requires g c = object_there c.self.inside c.args.self.now c.self.invariant c.self.view_is c.args.key c.index-description.result.now c.index-description.ensures

pub returns : goal.returns
returns g c = object_found c.self.inside c.args.self.now c.self.invariant c.self.view_is c.args.key c.index-description.result.now c.index-description.ensures c.index.result.now c.index.ensures
