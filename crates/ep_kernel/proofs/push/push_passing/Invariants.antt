use Rattle.std.proofs.Common.{◌&&◌, take}
use Rattle.ep_interest.specs.Passes.{has_id}
use Rattle.ep_interest.specs.Registrations.{entry_under}
use Rattle.ep_kernel.specs.Beside.{Each}
use Rattle.ep_kernel.specs.Push.{Gains, passes_found}
use Rattle.ep_kernel.proofs.push.push_passing.Given as goal
use Rattle.ep_rings.specs.KeyWalk.{entry_id}

abbrev pub invariant-loop-id : goal.invariant-loop-id
invariant-loop-id l = Each (Gains (λ k. has_id (take l.id-index l.id-items) k && passes_found (entry_under l.interest (entry_id k)))) l.fn.beside l.beside
