use Rattle.std.proofs.Common.{◌∙◌}
use Rattle.ep_ready.proofs.TiedLemmas.{dropped, tied_dropped}
use Rattle.ep_ready.proofs.ready.ReadyLists.drop_place.Goals as goal

pub invariant_of-self : goal.invariant_of-self
invariant_of-self g c = tied_dropped c.args.self.now c.known.ensures c.args.entry c.requires.place c.self.inside.rows c.self.inside.places.items c.self.invariant (c.self.view_is ∙ c.remove.ensures)

pub returns : goal.returns
returns g c = dropped c.args.self.now c.known.ensures c.args.entry c.requires.place c.self.inside.rows c.self.inside.places.items c.self.invariant (c.self.view_is ∙ c.remove.ensures)
