use Rattle.std.proofs.Common.{◌≡◌, List, Some, map}
use Rattle.ep_base.specs.declared.ids.DescId.{DescId}
use Rattle.ep_kernel.proofs.PlacesLemmas.{LosesEach}
use Rattle.ep_kernel.proofs.places.drop_dying.Given as goal
use Rattle.ep_kernel.specs.Beside.{Each}
use Rattle.ep_table.specs.Value.{number_under}

abbrev pub invariant-loop-desc : goal.invariant-loop-desc
invariant-loop-desc l = (all : List DescId) × (map (number_under l.parts.tables) all ≡ map Some l.parts.tables.dying) × Each (LosesEach l.parts.interest all l.desc-iterator) l.fn.beside l.beside
