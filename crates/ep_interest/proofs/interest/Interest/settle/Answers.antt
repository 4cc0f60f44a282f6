use Rattle.std.proofs.Common.{◌≡◌, ◌≤◌, ◌∙◌, List, Option, ap, length, map, vec_capacity}
use Rattle.std.proofs.lemmas.List.{length-map}
use Rattle.std.specs.Option.{option_map}
use Rattle.ep_base.specs.declared.ids.EntryId.{EntryId}
use Rattle.ep_interest.specs.ByNumber.{in_order}
use Rattle.ep_interest.specs.InTurn.{changed_at}
use Rattle.ep_interest.specs.Registrations.{Registrations, settled}
use Rattle.ep_interest.specs.View.{number_in}
use Rattle.ep_interest.specs.declared.entry.Entry.{Entry}
use Rattle.ep_interest.proofs.ChangeLemmas.{settled_keeps, in_order_changed, interest_changed, keys_changed}
use Rattle.ep_interest.proofs.PassesLemmas.{passing_settled, settled_all}
use Rattle.ep_interest.proofs.interest.Interest.settle.Given.{Over}
use Rattle.ep_interest.proofs.interest.Interest.settle.Goals as goal

slots_are : (g : Over) (c : goal.After-clear g) → c.rest_each.new.slots.slots ≡ map (option_map settled) c.self.inside.slots.slots
slots_are g c =
    let k = c.self.inside in
    c.rest_each.ensures.slots ∙ (ap (λ (ids : List EntryId). changed_at settled ids k.slots.slots) c.deref.ensures.value ∙ settled_all k.passes.keys.items k.slots.slots c.self.invariant.passing)

pub invariant_of-self : goal.invariant_of-self
invariant_of-self g c =
    let k = c.self.inside in
    let are = slots_are g c in
    let passing = passing_settled k.slots.slots c.rest_each.new.slots.slots c.clear.new.self.items are c.clear.ensures.items in
    let room : length c.rest_each.new.slots.slots ≤ vec_capacity c.clear.new.self = rw (are, length-map k.slots.slots (option_map settled), c.clear.ensures.capacity) c.self.invariant.room in
    interest_changed k settled c.rest_each.new.slots (record k.passes { keys = c.clear.new.self }) settled_keeps are passing room c.self.invariant

pub returns-clause-entries : goal.returns-clause-entries
returns-clause-entries g c =
    let k = c.self.inside in
    ap (λ (slots : List (Option Entry)). in_order slots k.added) (slots_are g c)
    ∙ (in_order_changed settled settled_keeps.number k.slots.slots k.added
    ∙ ap (λ (r : Registrations). map settled r.entries) c.self.view_is)

pub returns-clause-keys : goal.returns-clause-keys
returns-clause-keys g c =
    ap (map number_in) (slots_are g c)
    ∙ (keys_changed settled settled_keeps.number c.self.inside.slots.slots
    ∙ ap (λ (r : Registrations). r.keys) c.self.view_is)
