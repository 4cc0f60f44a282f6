use Rattle.std.proofs.Common.{sym, ◌+◌, ◌∙◌}
use Rattle.std.proofs.lemmas.Bool.{ltb-true}
use Rattle.ep_nest.proofs.DepthLemmas.{shallow_by_bounds}
use Rattle.ep_nest.proofs.LegalityLemmas.{short_from_is_legal}
use Rattle.ep_nest.specs.Depths.{depth_at}
use Rattle.ep_nest.specs.Links.{edges}
use Rattle.ep_nest.proofs.depths.are_too_deep.Goals as goal

pub returns-then-admit-clause-shallow : goal.returns-then-admit-clause-shallow
returns-then-admit-clause-shallow g c =
    let ls = c.args.links.now in
    let d = c.args.depths.now in
    let few = ltb-true (depth_at d.above.items c.args.outer.0 + depth_at d.below.items c.args.inner.0) 4 (sym c.admit.ensures ∙ c.if-admit.true) in
    λ is. shallow_by_bounds ls (short_from_is_legal (edges ls) c.requires.kept.legal) c.args.outer.0 c.args.inner.0 d c.requires.deep few

pub longest-above-requires-clause-short : goal.longest-above-requires-clause-short
longest-above-requires-clause-short g c = short_from_is_legal (edges c.args.links.now) c.requires.kept.legal

pub longest-below-requires-clause-short : goal.longest-below-requires-clause-short
longest-below-requires-clause-short g c = short_from_is_legal (edges c.args.links.now) c.requires.kept.legal
