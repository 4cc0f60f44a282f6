use Rattle.std.proofs.Common.{ap, length, sym, ◌∙◌, arith}
use Rattle.ep_nest.proofs.PurgeLemmas.{cut_fewer, cut_none, cut_one, staying}
use Rattle.ep_nest.proofs.graph.cut.Goals as goal

pub loop-link-smaller : goal.loop-link-smaller
loop-link-smaller g c =
    let fewer = cut_fewer c.args.way c.args.instance.0 c.in-Some.link c.loop-link.links (sym c.in-Some.ensures) in
    omega (arith, fewer, ap (λ ls. length ls) c.remove.ensures)

pub loop-link-preserved : goal.loop-link-preserved
loop-link-preserved g c =
    ap (staying c.args.way c.args.instance.0) c.remove.ensures
    ∙ (cut_one c.args.way c.args.instance.0 c.in-Some.link c.loop-link.links c.known.ensures (sym c.in-Some.ensures) ∙ c.loop-link.invariant)

pub returns : goal.returns
returns g c = cut_none c.args.way c.args.instance.0 c.loop-link.links (sym c.first.ensures ∙ c.in_default.is) ∙ c.loop-link.invariant
