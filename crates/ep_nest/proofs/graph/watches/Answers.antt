use Rattle.std.proofs.Common.{List, ap, arith, ◌==◌, ◌∙◌}
use Rattle.std.specs.List.{list_any}
use Rattle.ep_nest.proofs.KeptLemmas.{starting_few}
use Rattle.ep_nest.proofs.MayAddLemmas.{between_starting}
use Rattle.ep_nest.specs.declared.link.Link.{Link}
use Rattle.ep_nest.specs.declared.link.Way.TheVariants.{Down}
use Rattle.ep_nest.proofs.graph.watches.Goals as goal

pub gather-requires : goal.gather-requires
gather-requires g c = let few = starting_few Down c.args.outer.0 c.args.links.now in omega (arith, few, c.requires.kept.room.gathered)

pub returns-clause-exact : goal.returns-clause-exact
returns-clause-exact g c =
    let k = c.args.inner.0 in
    c.leads_to.ensures
    ∙ (ap (λ (ls : List Link). list_any (λ l. l.inner.0 == k) ls) (c.deref.ensures.value ∙ c.gather.ensures.links) ∙ between_starting c.args.links.now c.args.outer.0 k)
