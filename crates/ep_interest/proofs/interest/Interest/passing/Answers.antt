use Rattle.std.proofs.Common.{List, ap, refl, sym, ◌∙◌}
use Rattle.ep_base.specs.declared.ids.EntryId.{EntryId}
use Rattle.ep_interest.specs.Passes.{has_id, passes_on}
use Rattle.ep_interest.specs.Registrations.{Registrations, entry_under}
use Rattle.ep_interest.proofs.InOrderLemmas.{under_is}
use Rattle.ep_interest.proofs.interest.Interest.passing.Goals as goal

pub returns-clause-exact : goal.returns-clause-exact
returns-clause-exact g c id =
    let k = c.self.inside in
    ap (λ (ids : List EntryId). has_id ids id.0) c.deref.ensures.value
    ∙ (c.self.invariant.passing.each id.0
    ∙ (ap passes_on (sym (under_is k.slots.slots k.added c.self.invariant.numbered id.0 _ refl))
    ∙ ap (λ (r : Registrations). passes_on (entry_under r id)) c.self.view_is))
