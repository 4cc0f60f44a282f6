use Rattle.std.proofs.Common.{◌∙◌}
use Rattle.ep_script.proofs.WriterLemmas.{appends_rest, asked_once, rest_bound, not_failed}
use Rattle.ep_script.proofs.emit.emit.Goals as goal

pub loop-at-preserved : goal.loop-at-preserved
loop-at-preserved g c = record {
  within = rest_bound c.args.bytes.now c.loop-at.at c.in-Ok.taken c.loop-at-test.true c.in-Ok.ensures.bound;
  written = appends_rest _ _ _ c.args.bytes.now c.loop-at.at c.in-Ok.taken c.loop-at.invariant.written c.in-Ok.ensures.bytes;
  flag = not_failed c.in-Ok.taken _ _ _ c.in-Ok.taken-test.1 c.in-Ok.ensures.watched ∙ c.loop-at.invariant.flag;
  once = λ q. asked_once _ _ _ (c.loop-at.invariant.flag ∙ q) c.in-Ok.ensures.after ∙ c.loop-at.invariant.once q;
}
