use Rattle.std.proofs.Common.{◌<◌, arith, length, subst, sym}
use Rattle.ep_calls.specs.Parts.{Parts}
use Rattle.ep_climb.proofs.MarkLemmas.{turns_on}
use Rattle.ep_climb.proofs.marking.mark_reached.Goals as goal

pub mark_at-requires : goal.mark_at-requires
mark_at-requires g c = subst (λ (p : Parts). g.R.Readiness.knows c.loop-index.ready p.tables p.clock p.interest) (sym c.loop-index.invariant.turns.is) c.loop-index.invariant.knows

pub loop-index-preserved : goal.loop-index-preserved
loop-index-preserved g c =
    let ks = c.args.reached.now.reached in
    let within : c.loop-index.index < length ks = omega (arith, c.count-index-end.ensures) in
    record {
      turns = turns_on c.args.parts.now ks c.loop-index.index c.at.result c.loop-index.parts c.mark_at.new.parts c.loop-index.invariant.turns within c.at.ensures c.mark_at.ensures.marks;
      knows = subst (λ (p : Parts). g.R.Readiness.knows c.mark_at.new.ready p.tables p.clock p.interest) c.loop-index.invariant.turns.is c.mark_at.ensures.knows;
    }
