use Rattle.std.proofs.Common.{subst}
use Rattle.ep_calls.specs.Parts.{Parts}
use Rattle.ep_kernel.specs.Readiness.{EndsWithin}
use Rattle.ep_nest.proofs.LegalityLemmas.{short_from_is_legal}
use Rattle.ep_nest.specs.Links.{edges}
use Rattle.ep_kernel.proofs.readiness.is_ready.Goals as goal

pub is_ready_within-requires-clause-ends : goal.is_ready_within-requires-clause-ends
is_ready_within-requires-clause-ends c =
    let k = c.parts.inside in
    subst (λ (p : Parts). EndsWithin 5 p c.args.instance) c.parts.view_is (λ y. short_from_is_legal (edges k.graph) c.known.ensures.legal c.args.instance.0 y)
