use Rattle.std.proofs.Common.{ap, refl, sym, ◌∙◌}
use Rattle.ep_interest.specs.Registrations.{Registrations, entry_under}
use Rattle.ep_interest.proofs.InOrderLemmas.{under_is}
use Rattle.ep_interest.proofs.interest.Interest.get.Goals as goal

pub returns : goal.returns
returns g c =
    let k = c.self.inside in
    c.get.ensures
    ∙ (sym (under_is k.slots.slots k.added c.self.invariant.numbered c.args.id.0 _ refl)
    ∙ ap (λ (r : Registrations). entry_under r c.args.id) c.self.view_is)
