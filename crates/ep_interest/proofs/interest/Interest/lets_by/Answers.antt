use Rattle.std.proofs.Common.{Some, ap, refl, sym, ◌∙◌, ◌≡◌}
use Rattle.ep_interest.specs.Registrations.{Registrations, entry_under}
use Rattle.ep_interest.proofs.InOrderLemmas.{under_is}
use Rattle.ep_interest.proofs.interest.Interest.lets_by.Goals as goal

pub returns-then-entry : goal.returns-then-entry
returns-then-entry g c =
    let k = c.self.inside in
    let x = c.in-Some.entry.now in
    let under : entry_under c.args.self.now c.args.id ≡ Some x =
    sym (ap (λ (r : Registrations). entry_under r c.args.id) c.self.view_is) ∙ under_is k.slots.slots k.added c.self.invariant.numbered c.args.id.0 (Some x) (sym c.in-Some.ensures) in
    rw (under, c.if-entry.true) c.is_asked.ensures

pub returns-else-entry : goal.returns-else-entry
returns-else-entry g c =
    let k = c.self.inside in
    let x = c.in-Some.entry.now in
    let under : entry_under c.args.self.now c.args.id ≡ Some x =
    sym (ap (λ (r : Registrations). entry_under r c.args.id) c.self.view_is) ∙ under_is k.slots.slots k.added c.self.invariant.numbered c.args.id.0 (Some x) (sym c.in-Some.ensures) in
    rw (under, c.if-entry.false) refl
