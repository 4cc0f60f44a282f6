use Rattle.std.proofs.Common.{filter}
use Rattle.ep_interest.specs.Registrations.{ids, is_on}
use Rattle.ep_kernel.proofs.PlacesLemmas.{Loses}
use Rattle.ep_kernel.proofs.places.drop_watchers.Given as goal
use Rattle.ep_kernel.specs.Beside.{Each}

abbrev pub invariant-loop-id : goal.invariant-loop-id
invariant-loop-id l = Each (Loses (ids l.interest (filter (is_on l.fn.desc) l.interest.entries)) l.id-iterator) l.fn.beside l.beside
