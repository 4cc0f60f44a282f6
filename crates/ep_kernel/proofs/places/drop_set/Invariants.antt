use Rattle.std.proofs.Common.{filter}
use Rattle.ep_interest.specs.Registrations.{ids, is_of}
use Rattle.ep_kernel.proofs.PlacesLemmas.{Loses, firsts}
use Rattle.ep_kernel.proofs.places.drop_set.Given as goal
use Rattle.ep_kernel.specs.Beside.{Each}

abbrev pub invariant-loop-id : goal.invariant-loop-id
invariant-loop-id l = Each (Loses (ids l.interest (filter (is_of l.fn.instance) l.interest.entries)) (firsts l.id-iterator)) l.fn.beside l.beside
