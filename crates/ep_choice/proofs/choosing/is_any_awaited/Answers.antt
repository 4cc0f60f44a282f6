use Rattle.std.proofs.Common.{◌∙◌, arith, sym}
use Rattle.ep_choice.specs.Choose.{awaited_key}
use Rattle.ep_choice.proofs.WalkLemmas.{vain_end, vain_found, vain_on}
use Rattle.ep_choice.proofs.choosing.is_any_awaited.Goals as goal

pub loop-index-preserved : goal.loop-index-preserved
loop-index-preserved g c =
    let p = c.args.parts.now in
    let ks = c.args.reached.now.reached in
    record {
      vain = vain_on (awaited_key p.tables p.clock p.interest p.parked) ks c.loop-index.index c.at.result (omega (arith, c.loop-index-test.true, c.count-index-end.ensures)) c.at.ensures c.loop-index.invariant.vain (sym c.is_awaited.ensures.exact ∙ c.if-is_awaited.false);
      knows = c.is_awaited.ensures.knows;
    }

pub returns-then-is_awaited-clause-exact : goal.returns-then-is_awaited-clause-exact
returns-then-is_awaited-clause-exact g c =
    let p = c.args.parts.now in
    let ks = c.args.reached.now.reached in
    sym (vain_found (awaited_key p.tables p.clock p.interest p.parked) ks c.loop-index.index c.at.result (omega (arith, c.loop-index-test.true, c.count-index-end.ensures)) c.at.ensures (sym c.is_awaited.ensures.exact ∙ c.if-is_awaited.true))

pub returns-clause-exact : goal.returns-clause-exact
returns-clause-exact g c =
    let p = c.args.parts.now in
    let ks = c.args.reached.now.reached in
    sym (vain_end (awaited_key p.tables p.clock p.interest p.parked) ks c.loop-index.index (omega (arith, c.loop-index-test.false, c.count-index-end.ensures)) c.loop-index.invariant.vain)
