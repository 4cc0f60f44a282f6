use Rattle.std.proofs.Common.{ap, is_some, ◌∙◌}
use Rattle.ep_machine.specs.Lists.{is_among}
use Rattle.ep_nest.proofs.TurnLemmas.{has_ticket}
use Rattle.ep_nest.specs.Links.{entries}
use Rattle.ep_nest.proofs.links.Links.has.Goals as goal

pub returns : goal.returns
returns g c =
    let q = c.args.entry.0 in
    c.contains_key.ensures
    ∙ (ap is_some (c.self.invariant.ticketed q) ∙ (has_ticket q c.self.inside.turns.entries ∙ ap (λ ls. is_among (entries ls) q) c.self.view_is))
