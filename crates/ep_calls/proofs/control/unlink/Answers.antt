use Rattle.std.proofs.Common.{◌≡◌, ◌∙◌, ◌==◌, ℕ, Option, ap, false, sym, unwrap_or}
use Rattle.ep_interest.specs.Registrations.{number_under, numbered}
use Rattle.ep_machine.specs.Objects.{Object, is_instance, plain}
use Rattle.ep_nest.specs.Links.{without}
use Rattle.ep_calls.specs.Climb.{is_nested}
use Rattle.ep_calls.specs.Stands.{IsLinked}
use Rattle.ep_calls.proofs.AdditionLemmas.{found_passes}
use Rattle.ep_calls.proofs.LinkLemmas.{links_stay}
use Rattle.ep_calls.proofs.control.unlink.Goals as goal

pub object-requires : goal.object-requires
object-requires c =
    let x = c.entry-entry.result.now in
    (found_passes (IsLinked c.args.tables.now.keys) (λ y. y.number == x.number) x c.args.interest.now.entries c.requires.linked c.entry-entry.ensures.entry).desc

pub returns-else-is_instance : goal.returns-else-is_instance
returns-else-is_instance c =
    let v = c.args.tables.now in
    let r = c.args.interest.now in
    let x = c.entry-entry.result.now in
    let is : unwrap_or (number_under r c.args.id) 0 ≡ x.number = ap (λ (o : Option ℕ). unwrap_or o 0) c.entry-entry.ensures.number in
    let apart : is_nested v x ≡ false = ap (λ (o : Option Object). is_instance (unwrap_or o plain)) (sym c.object.ensures) ∙ (sym c.is_instance.ensures ∙ c.if-is_instance.false) in
    let stay = links_stay (is_nested v) r c.known.ensures c.args.id c.requires.there x (ap (numbered r.entries) is ∙ c.entry-entry.ensures.entry) apart in
    c.requires.nested ∙ (sym stay ∙ ap (without c.args.id.0) (sym c.requires.nested))
