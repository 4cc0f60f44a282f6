use Rattle.std.proofs.Common.{subst}
use Rattle.ep_rings.specs.PlacedRows.{AreApart}
use Rattle.ep_rings.proofs.PlacedLemmas.{are_apart}
use Rattle.ep_rings.proofs.placed_rows.PlacedRows.known.Goals as goal

pub returns : goal.returns
returns g c = subst AreApart c.self.view_is (are_apart c.self.inside.heads.items c.self.inside.circles c.self.invariant)
