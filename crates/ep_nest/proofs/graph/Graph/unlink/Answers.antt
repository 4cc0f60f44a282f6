use Rattle.std.proofs.Common.{Bool, ap, not, ◌∙◌}
use Rattle.ep_nest.proofs.DepthLemmas.{deep_left}
use Rattle.ep_nest.proofs.KeptLemmas.{kept_left}
use Rattle.ep_nest.specs.Links.{is_of, without}
use Rattle.ep_nest.specs.declared.link.Link.{Link}
use Rattle.ep_nest.proofs.graph.Graph.unlink.Goals as goal

pub invariant_of-self : goal.invariant_of-self
invariant_of-self g c =
    let left : Link → Bool = λ m. not (is_of c.args.entry.0 m) in
    record {
      kept = kept_left left c.self.inside.links c.remove.new.self c.self.inside.walk c.remove.ensures c.self.invariant.kept;
      deep = deep_left left c.self.inside.links c.remove.new.self c.self.inside.depths c.remove.ensures c.self.invariant.deep;
    }

pub returns : goal.returns
returns g c = c.remove.ensures ∙ ap (without c.args.entry.0) c.self.view_is
