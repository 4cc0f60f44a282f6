use Rattle.std.proofs.Common.{◌≡◌, ◌∙◌, List, Option, ap, filter, map}
use Rattle.std.specs.Option.{option_map}
use Rattle.ep_interest.specs.ByNumber.{in_order}
use Rattle.ep_interest.specs.Exclusive.{kept_passing}
use Rattle.ep_interest.specs.Registrations.{Registrations, is_on}
use Rattle.ep_interest.specs.View.{number_in}
use Rattle.ep_interest.specs.declared.entry.Entry.{Entry}
use Rattle.ep_interest.proofs.ChangeLemmas.{in_order_changed, interest_changed, keys_changed}
use Rattle.ep_interest.proofs.StopLemmas.{stopped_again, stopped_apart, stopped_keeps}
use Rattle.ep_interest.proofs.InTurnLemmas.{changed_on, held_on, id_in, watchers_are}
use Rattle.ep_interest.proofs.interest.Interest.keep_passing.Given.{Over}
use Rattle.ep_interest.proofs.interest.Interest.keep_passing.Goals as goal
use Rattle.ep_interest.proofs.interest.Interest.keep_passing.Goals.{After-keys-keys}

keys_are : (g : Over) (c : After-keys-keys g) → c.keys-keys.result ≡ map (id_in c.self.inside.slots.slots) (filter (is_on c.args.desc) (in_order c.self.inside.slots.slots c.self.inside.added))
keys_are g c = c.keys-keys.ensures ∙ watchers_are c.self.inside c.self.invariant c.args.desc

pub stop_each-requires-clause-held : goal.stop_each-requires-clause-held
stop_each-requires-clause-held g c = let k = c.self.inside in held_on k.slots.slots k.added c.self.invariant.numbered c.args.desc c.keys-keys.result (keys_are g (goal.at.stop_each-requires-clause-held g c).After-keys-keys)

slots_are : (g : Over) (c : goal.After-stop_each g) → c.keys-keys.result ≡ map (id_in c.self.inside.slots.slots) (filter (is_on c.args.desc) (in_order c.self.inside.slots.slots c.self.inside.added)) → c.stop_each.new.slots.slots ≡ map (option_map (kept_passing c.args.desc c.args.keep)) c.self.inside.slots.slots
slots_are g c keys =
    let k = c.self.inside in
    c.stop_each.ensures.slots ∙ changed_on (kept_passing c.args.desc c.args.keep) (stopped_again c.args.desc c.args.keep) c.args.desc (stopped_apart c.args.desc c.args.keep) k.slots.slots k.added c.self.invariant.numbered c.keys-keys.result keys

pub invariant_of-self : goal.invariant_of-self
invariant_of-self g c = interest_changed c.self.inside (kept_passing c.args.desc c.args.keep) c.stop_each.new.slots c.stop_each.new.passes (stopped_keeps c.args.desc c.args.keep) (slots_are g c (keys_are g (goal.at.invariant_of-self g c).After-keys-keys)) c.stop_each.ensures.passing c.stop_each.ensures.room c.self.invariant

pub returns-clause-entries : goal.returns-clause-entries
returns-clause-entries g c =
    let k = c.self.inside in
    ap (λ (slots : List (Option Entry)). in_order slots k.added) (slots_are g c (keys_are g (goal.at.returns-clause-entries g c).After-keys-keys))
    ∙ (in_order_changed (kept_passing c.args.desc c.args.keep) (stopped_keeps c.args.desc c.args.keep).number k.slots.slots k.added
    ∙ ap (λ (r : Registrations). map (kept_passing c.args.desc c.args.keep) r.entries) c.self.view_is)

pub returns-clause-keys : goal.returns-clause-keys
returns-clause-keys g c =
    ap (map number_in) (slots_are g c (keys_are g (goal.at.returns-clause-keys g c).After-keys-keys))
    ∙ (keys_changed (kept_passing c.args.desc c.args.keep) (stopped_keeps c.args.desc c.args.keep).number c.self.inside.slots.slots
    ∙ ap (λ (r : Registrations). r.keys) c.self.view_is)
