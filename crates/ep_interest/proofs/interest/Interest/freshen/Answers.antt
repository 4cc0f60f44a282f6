use Rattle.std.proofs.Common.{length, vec_capacity, ◌≤◌}
use Rattle.std.proofs.lemmas.List.{length-map}
use Rattle.std.proofs.Common.{◌≡◌, ◌∙◌, List, Option, ap, filter, map}
use Rattle.std.specs.Option.{option_map}
use Rattle.ep_interest.specs.ByNumber.{in_order}
use Rattle.ep_interest.specs.Registrations.{Registrations, is_on, freshened_on}
use Rattle.ep_interest.specs.View.{number_in}
use Rattle.ep_interest.specs.declared.entry.Entry.{Entry}
use Rattle.ep_interest.proofs.ChangeLemmas.{freshened_keeps, in_order_changed, interest_changed, keys_changed}
use Rattle.ep_interest.proofs.PassesLemmas.{freshened_passes, passing_changed}
use Rattle.ep_interest.proofs.InTurnLemmas.{freshened_again, freshened_apart, changed_on, held_on, id_in, watchers_are}
use Rattle.ep_interest.proofs.interest.Interest.freshen.Given.{Over}
use Rattle.ep_interest.proofs.interest.Interest.freshen.Goals as goal
use Rattle.ep_interest.proofs.interest.Interest.freshen.Goals.{After-keys-keys}

keys_are : (g : Over) (c : After-keys-keys g) → c.keys-keys.result ≡ map (id_in c.self.inside.slots.slots) (filter (is_on c.args.desc) (in_order c.self.inside.slots.slots c.self.inside.added))
keys_are g c = c.keys-keys.ensures ∙ watchers_are c.self.inside c.self.invariant c.args.desc

pub freshen_each-requires : goal.freshen_each-requires
freshen_each-requires g c = let k = c.self.inside in held_on k.slots.slots k.added c.self.invariant.numbered c.args.desc c.keys-keys.result (keys_are g (goal.at.freshen_each-requires g c).After-keys-keys)

slots_are : (g : Over) (c : goal.After-freshen_each g) → c.keys-keys.result ≡ map (id_in c.self.inside.slots.slots) (filter (is_on c.args.desc) (in_order c.self.inside.slots.slots c.self.inside.added)) → c.freshen_each.new.slots.slots ≡ map (option_map (freshened_on c.args.desc c.args.bits)) c.self.inside.slots.slots
slots_are g c keys =
    let k = c.self.inside in
    c.freshen_each.ensures.slots ∙ changed_on (freshened_on c.args.desc c.args.bits) (freshened_again c.args.desc c.args.bits) c.args.desc (freshened_apart c.args.desc c.args.bits) k.slots.slots k.added c.self.invariant.numbered c.keys-keys.result keys

pub invariant_of-self : goal.invariant_of-self
invariant_of-self g c =
    let k = c.self.inside in
    let are = slots_are g c (keys_are g (goal.at.invariant_of-self g c).After-keys-keys) in
    let passing = passing_changed (freshened_on c.args.desc c.args.bits) (freshened_passes c.args.desc c.args.bits) k.slots.slots c.freshen_each.new.slots.slots k.passes.keys.items are c.self.invariant.passing in
    let room : length c.freshen_each.new.slots.slots ≤ vec_capacity k.passes.keys = rw (are, length-map k.slots.slots (option_map (freshened_on c.args.desc c.args.bits))) c.self.invariant.room in
    interest_changed c.self.inside (freshened_on c.args.desc c.args.bits) c.freshen_each.new.slots c.self.inside.passes (freshened_keeps c.args.desc c.args.bits) are passing room c.self.invariant

pub returns-clause-entries : goal.returns-clause-entries
returns-clause-entries g c =
    let k = c.self.inside in
    ap (λ (slots : List (Option Entry)). in_order slots k.added) (slots_are g c (keys_are g (goal.at.returns-clause-entries g c).After-keys-keys))
    ∙ (in_order_changed (freshened_on c.args.desc c.args.bits) (freshened_keeps c.args.desc c.args.bits).number k.slots.slots k.added
    ∙ ap (λ (r : Registrations). map (freshened_on c.args.desc c.args.bits) r.entries) c.self.view_is)

pub returns-clause-keys : goal.returns-clause-keys
returns-clause-keys g c =
    ap (map number_in) (slots_are g c (keys_are g (goal.at.returns-clause-keys g c).After-keys-keys))
    ∙ (keys_changed (freshened_on c.args.desc c.args.bits) (freshened_keeps c.args.desc c.args.bits).number c.self.inside.slots.slots
    ∙ ap (λ (r : Registrations). r.keys) c.self.view_is)
