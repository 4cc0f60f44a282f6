use Rattle.std.proofs.Common.{◌<◌, arith, length, subst}
use Rattle.ep_calls.specs.Parts.{Parts}
use Rattle.ep_choice.proofs.LooseLemmas.{loose_on}
use Rattle.ep_choice.proofs.loose.mark_loose.Goals as goal

pub loop-index-preserved : goal.loop-index-preserved
loop-index-preserved g c =
    let ks = c.reach_loose.new.reached.reached in
    let within : c.loop-index.index < length ks = omega (arith, c.loop-index-test.true, c.count-index-end.ensures) in
    record {
      turns = loose_on c.args.parts.now ks c.loop-index.index c.at.result c.loop-index.parts c.mark_unguarded.new.parts c.loop-index.invariant.turns within c.at.ensures c.mark_unguarded.ensures.marks;
      knows = subst (λ (q : Parts). g.R.Readiness.knows c.mark_unguarded.new.ready q.tables q.clock q.interest) c.loop-index.invariant.turns.is c.mark_unguarded.ensures.knows;
    }
