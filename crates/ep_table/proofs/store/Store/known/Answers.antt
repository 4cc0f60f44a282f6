use Rattle.ep_table.proofs.SoundLemmas.{sound_things}
use Rattle.ep_table.proofs.store.Store.known.Goals as goal

pub returns : goal.returns
returns g c = sound_things c.self.inside c.args.self.now c.self.invariant c.self.view_is
