use Rattle.std.proofs.Common.{subst}
use Rattle.ep_ready.specs.ReadyLists.{IsSound}
use Rattle.ep_ready.proofs.TiedLemmas.{known_lists}
use Rattle.ep_ready.proofs.ready.ReadyLists.known.Goals as goal

pub returns : goal.returns
returns g c = subst IsSound c.self.view_is (known_lists c.self.inside.rows c.self.inside.places.items c.self.invariant c.known.ensures)
