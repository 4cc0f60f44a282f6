use Rattle.std.proofs.Common.{◌≡◌, ◌∙◌, List, Option, ap, filter, map}
use Rattle.std.specs.Option.{option_map}
use Rattle.ep_interest.specs.ByNumber.{in_order}
use Rattle.ep_interest.specs.Registrations.{Registrations, is_on, raised_on}
use Rattle.ep_interest.specs.View.{number_in}
use Rattle.ep_interest.specs.declared.entry.Entry.{Entry}
use Rattle.ep_interest.proofs.ChangeLemmas.{raised_keeps, in_order_changed, interest_changed, keys_changed}
use Rattle.ep_interest.proofs.InTurnLemmas.{raised_again, raised_apart, changed_on, held_on, id_in, watchers_are}
use Rattle.ep_interest.proofs.interest.Interest.raise.Given.{Over}
use Rattle.ep_interest.proofs.interest.Interest.raise.Goals as goal
use Rattle.ep_interest.proofs.interest.Interest.raise.Goals.{After-keys-keys}

keys_are : (g : Over) (c : After-keys-keys g) → c.keys-keys.result ≡ map (id_in c.self.inside.slots.slots) (filter (is_on c.args.desc) (in_order c.self.inside.slots.slots c.self.inside.added))
keys_are g c = c.keys-keys.ensures ∙ watchers_are c.self.inside c.self.invariant c.args.desc

pub raise_each-requires-clause-held : goal.raise_each-requires-clause-held
raise_each-requires-clause-held g c = let k = c.self.inside in held_on k.slots.slots k.added c.self.invariant.numbered c.args.desc c.keys-keys.result (keys_are g (goal.at.raise_each-requires-clause-held g c).After-keys-keys)

slots_are : (g : Over) (c : goal.After-raise_each g) → c.keys-keys.result ≡ map (id_in c.self.inside.slots.slots) (filter (is_on c.args.desc) (in_order c.self.inside.slots.slots c.self.inside.added)) → c.raise_each.new.slots.slots ≡ map (option_map (raised_on c.args.desc c.args.bits c.args.event)) c.self.inside.slots.slots
slots_are g c keys =
    let k = c.self.inside in
    c.raise_each.ensures.slots ∙ changed_on (raised_on c.args.desc c.args.bits c.args.event) (raised_again c.args.desc c.args.bits c.args.event) c.args.desc (raised_apart c.args.desc c.args.bits c.args.event) k.slots.slots k.added c.self.invariant.numbered c.keys-keys.result keys

pub invariant_of-self : goal.invariant_of-self
invariant_of-self g c = interest_changed c.self.inside (raised_on c.args.desc c.args.bits c.args.event) c.raise_each.new.slots c.raise_each.new.passes (raised_keeps c.args.desc c.args.bits c.args.event) (slots_are g c (keys_are g (goal.at.invariant_of-self g c).After-keys-keys)) c.raise_each.ensures.passing c.raise_each.ensures.room c.self.invariant

pub returns-clause-entries : goal.returns-clause-entries
returns-clause-entries g c =
    let k = c.self.inside in
    ap (λ (slots : List (Option Entry)). in_order slots k.added) (slots_are g c (keys_are g (goal.at.returns-clause-entries g c).After-keys-keys))
    ∙ (in_order_changed (raised_on c.args.desc c.args.bits c.args.event) (raised_keeps c.args.desc c.args.bits c.args.event).number k.slots.slots k.added
    ∙ ap (λ (r : Registrations). map (raised_on c.args.desc c.args.bits c.args.event) r.entries) c.self.view_is)

pub returns-clause-keys : goal.returns-clause-keys
returns-clause-keys g c =
    ap (map number_in) (slots_are g c (keys_are g (goal.at.returns-clause-keys g c).After-keys-keys))
    ∙ (keys_changed (raised_on c.args.desc c.args.bits c.args.event) (raised_keeps c.args.desc c.args.bits c.args.event).number c.self.inside.slots.slots
    ∙ ap (λ (r : Registrations). r.keys) c.self.view_is)
