use Rattle.std.proofs.Common.{filter}
use Rattle.ep_interest.specs.Registrations.{entry_under, ids, is_on, lets_in}
use Rattle.ep_kernel.proofs.PushLemmas.{GainsOver}
use Rattle.ep_kernel.proofs.push.push_watchers.Given as goal
use Rattle.ep_kernel.specs.Beside.{Each}
use Rattle.ep_rings.specs.KeyWalk.{entry_id}

abbrev pub invariant-loop-id : goal.invariant-loop-id
invariant-loop-id l = Each (GainsOver (λ k. lets_in (entry_under l.interest (entry_id k))) (ids l.interest (filter (is_on l.fn.desc) l.interest.entries)) l.id-iterator) l.fn.beside l.beside
