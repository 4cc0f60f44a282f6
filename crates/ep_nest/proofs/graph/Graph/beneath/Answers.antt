use Rattle.std.proofs.Common.{List, ap, refl, subst, sym, ◌∙◌}
use Rattle.ep_base.specs.declared.ids.DescId.{DescId}
use Rattle.ep_machine.specs.Lists.{are_distinct}
use Rattle.ep_nest.specs.Descent.{AreBeneath}
use Rattle.ep_nest.specs.Links.{keys}
use Rattle.ep_nest.specs.declared.link.Link.{Link}
use Rattle.ep_nest.proofs.graph.Graph.beneath.Goals as goal

pub invariant_of-self : goal.invariant_of-self
invariant_of-self g c = record {
  kept = record { legal = c.self.invariant.kept.legal; room = c.descend.ensures.room; clear = c.descend.ensures.clear };
  deep = c.self.invariant.deep;
}

pub returns : goal.returns
returns g c = (
  (refl, λ v. tt, c.self.view_is),
  record {
    stays = tt;
    exact = subst (λ (ls : List Link). AreBeneath ls c.args.outer.0 (keys c.deref.result.now)) c.self.view_is (subst (λ (ds : List DescId). AreBeneath c.self.inside.links c.args.outer.0 (keys ds)) (sym c.deref.ensures.value) c.descend.ensures.exact);
    once = ap (λ (ds : List DescId). are_distinct (keys ds)) c.deref.ensures.value ∙ c.descend.ensures.once;
  },
)
