use Rattle.std.proofs.Common.{◌∙◌, sym}
use Rattle.ep_kernel.proofs.PlacesLemmas.{loses_nothing, loses_one, placeless}
use Rattle.ep_kernel.proofs.beside.drop_one.Goals as goal
use Rattle.ep_ready.specs.ReadyLists.{instance_at}

pub returns-then-has_place : goal.returns-then-has_place
returns-then-has_place c = loses_one c.args.lists.now c.drop_place.new.self c.args.id c.drop_place.ensures

pub returns-else-has_place : goal.returns-else-has_place
returns-else-has_place c = loses_nothing c.args.lists.now c.args.id c.known.ensures (placeless (instance_at c.args.lists.now c.args.id) (sym c.has_place.ensures ∙ c.if-has_place.false))
