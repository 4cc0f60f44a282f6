use Rattle.std.proofs.Common.{Option, Some, ap, set, sym, ◌∙◌}
use Rattle.std.specs.Option.{option_map}
use Rattle.ep_interest.specs.Registrations.{settled}
use Rattle.ep_interest.specs.declared.entry.Entry.{Entry}
use Rattle.ep_interest.proofs.PassesLemmas.{nothing_set}
use Rattle.ep_interest.proofs.interest.rest_at.Goals as goal

pub returns-in-Some-clause-slots : goal.returns-in-Some-clause-slots
returns-in-Some-clause-slots g c = ap (λ (o : Option Entry). set c.args.slots.now.slots c.args.id.0 o) (ap (λ (x : Entry). Some x) c.rest.ensures ∙ ap (option_map settled) c.in-Some.ensures.value)

pub returns-in_default-clause-slots : goal.returns-in_default-clause-slots
returns-in_default-clause-slots g c =
    let slots = c.args.slots.now.slots in
    nothing_set slots c.args.id.0 (sym c.in_default.ensures.value) ∙ ap (λ (o : Option Entry). set slots c.args.id.0 (option_map settled o)) c.in_default.ensures.value
