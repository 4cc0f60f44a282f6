use Rattle.std.proofs.Common.{◌≡◌, All, List, ap, filter, length, map, subst, sym, ◌∙◌}
use Rattle.std.proofs.iter.runs.Sources.{from_front}
use Rattle.std.proofs.lemmas.List.Elements.{All-filter}
use Rattle.std.specs.Map.Iter.{TakesFirst}
use Rattle.ep_base.specs.declared.ids.EntryId.{EntryId}
use Rattle.ep_interest.specs.ByNumber.{in_order}
use Rattle.ep_interest.specs.InTurn.{AllHeld}
use Rattle.ep_interest.specs.Listed.{listed, shown}
use Rattle.ep_interest.specs.Registrations.{Registrations, is_on, with_ids}
use Rattle.ep_interest.specs.View.{key_in}
use Rattle.ep_rings.specs.KeyWalk.{entry_id}
use Rattle.ep_interest.specs.declared.entry.Entry.{Entry}
use Rattle.ep_interest.proofs.KeysWithLemmas.{IsAtKey, at_keys}
use Rattle.ep_interest.proofs.ListedLemmas.{held_at, listed_at}
use Rattle.ep_interest.proofs.interest.Interest.entries_on.Given.{Over}
use Rattle.ep_interest.proofs.interest.Interest.entries_on.Goals as goal

-- those on the description
abbrev mine : (g : Over) (c : goal.After-keys-keys g) → List Entry
mine g c = filter (is_on c.args.desc) (in_order c.self.inside.slots.slots c.self.inside.added)

mine_at : (g : Over) (c : goal.After-keys-keys g) → All (IsAtKey c.self.inside.slots.slots) (mine g c)
mine_at g c =
    let k = c.self.inside in
    All-filter (is_on c.args.desc) (IsAtKey k.slots.slots) (in_order k.slots.slots k.added) (at_keys k.slots.slots k.added c.self.invariant.numbered)

keys_are : (g : Over) (c : goal.After-keys-keys g) → c.keys-keys.result ≡ map entry_id (map (key_in c.self.inside.slots.slots) (mine g c))
keys_are g c = c.keys-keys.ensures ∙ ap (map entry_id) (c.self.invariant.by_target.rows c.args.desc.0)

are : (g : Over) (c : goal.After-keys-keys g) → listed c.self.inside.slots.slots c.keys-keys.result ≡ map (λ x. (entry_id (key_in c.self.inside.slots.slots x), x)) (mine g c)
are g c = let k = c.self.inside in ap (listed k.slots.slots) (keys_are g c) ∙ listed_at k.slots.slots (mine g c) (mine_at g c)

pub invariant_of-result : goal.invariant_of-result
invariant_of-result g c = let k = c.self.inside in subst (λ (ids : List EntryId). AllHeld k.slots.slots ids) (sym (keys_are g c)) (held_at k.slots.slots (mine g c) (mine_at g c))

pub returns-clause-exact : goal.returns-clause-exact
returns-clause-exact g c =
    let k = c.self.inside in
    subst (λ (r : Registrations). listed k.slots.slots c.keys-keys.result ≡ with_ids r (filter (is_on c.args.desc) r.entries)) c.self.view_is (are g c)

pub returns-clause-runs : goal.returns-clause-runs
returns-clause-runs g c = from_front (TakesFirst shown) shown (λ s. s) (λ s t h. ap length h.0) (λ s x t h. h)
