use Rattle.std.proofs.Common.{filter, length, ap, ◌∙◌}
use Rattle.ep_interest.specs.Exclusive.{is_exclusive}
use Rattle.ep_interest.specs.Registrations.{Registrations}
use Rattle.ep_interest.proofs.GuardsLemmas.{guards_are}
use Rattle.ep_interest.proofs.interest.Interest.guards.Goals as goal

pub returns : goal.returns
returns g c = c.self.invariant.guards ∙ (guards_are c.self.inside.slots.slots c.self.inside.added c.self.invariant.numbered ∙ ap (λ (r : Registrations). length (filter is_exclusive r.entries)) c.self.view_is)
