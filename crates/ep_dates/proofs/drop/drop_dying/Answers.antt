use Rattle.std.proofs.Common.{◌++◌, ◌∙◌, ◌∷◌, [], List, ap, append_assoc, subst, sym}
use Rattle.ep_base.specs.declared.ids.DescId.{DescId}
use Rattle.ep_calls.specs.Parts.{Parts}
use Rattle.ep_dates.proofs.DropLemmas.{dying_next}
use Rattle.ep_dates.specs.Drop.{Drops, touches}
use Rattle.ep_dates.proofs.drop.drop_dying.Goals as goal

pub loop-desc-preserved : goal.loop-desc-preserved
loop-desc-preserved c = record {
  whole = append_assoc c.loop-desc.yielded (c.in-Some.desc ∷ []) c.next.new.self ∙ (ap (λ (l : List DescId). c.loop-desc.yielded ++ l) (sym c.in-Some.ensures.steps) ∙ c.loop-desc.invariant.whole);
  drops =
      dying_next c.args.parts.now.interest c.loop-desc.yielded c.in-Some.desc c.args.dates.now c.loop-desc.dates c.drop_touching.new.dates c.loop-desc.invariant.drops
      (subst (λ (q : Parts). Drops q.interest (touches q.interest c.in-Some.desc.0) c.loop-desc.dates c.drop_touching.new.dates) c.parts.view_is c.drop_touching.ensures);
}
