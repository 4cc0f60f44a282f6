use Rattle.std.proofs.lemmas.List.{length-set}
use Rattle.std.proofs.Common.{◌≡◌, ℕ, None, Some, arith, count_by, get_or, ap, map, refl, set, subst, sym, unwrap_or, ◌∙◌, true}
use Rattle.std.specs.HashMap as hash
use Rattle.ep_interest.specs.ByNumber.{in_order}
use Rattle.ep_interest.specs.Registrations.{Registrations, modified, number_under}
use Rattle.ep_interest.specs.View.{instance_of, key_of, number_in, same_key, target_of}
use Rattle.ep_interest.specs.declared.entry.Entry.{Entry}
use Rattle.ep_interest.proofs.InOrderLemmas.{held_next, numbered_next}
use Rattle.ep_interest.proofs.IndexLemmas.{index_next}
use Rattle.ep_interest.proofs.ReplaceLemmas.{Replaced, modified_keeps, keys_same, modified_other, modified_this, number_is, replaced}
use Rattle.ep_interest.proofs.PassesLemmas.{passing_replaced}
use Rattle.ep_interest.proofs.KeysWithLemmas.{rows_changed}
use Rattle.ep_interest.proofs.GuardsLemmas.{count_but, one}
use Rattle.ep_interest.specs.Exclusive.{is_exclusive, is_exclusive_slot}
use Rattle.ep_interest.proofs.interest.Interest.modify.Given.{Over}
use Rattle.ep_interest.proofs.interest.Interest.modify.Goals as goal

abbrev next : (g : Over) (c : goal.After-self-2-1 g) → Entry
next g c = record c.index_mut-changed.result.now { mask = c.args.mask; tag = c.args.tag; armed = true; fresh = true }

in_slots : (g : Over) (c : goal.After-self-2-1 g) → Replaced c.self.inside.slots.slots (set c.self.inside.slots.slots c.args.id.0 (Some (next g c))) c.args.id.0 c.index_mut-changed.result.now (next g c)
in_slots g c = replaced c.self.inside.slots.slots c.args.id.0 c.index_mut-changed.result.now (next g c) c.index_mut-changed.ensures.value

-- the registrations in order, with that one changed
changed : (g : Over) (c : goal.After-self-2-1 g) → in_order (set c.self.inside.slots.slots c.args.id.0 (Some (next g c))) c.self.inside.added ≡ map (modified c.index_mut-changed.result.now.number c.args.mask c.args.tag) (in_order c.self.inside.slots.slots c.self.inside.added)
changed g c =
    let k = c.self.inside in let x = c.index_mut-changed.result.now in let s = in_slots g c in
    let after = set k.slots.slots c.args.id.0 (Some (next g c)) in
    held_next k.slots.slots after c.args.id.0 x (next g c) s.was s.here s.others refl k.added c.self.invariant.numbered (modified x.number c.args.mask c.args.tag) (modified_this x c.args.mask c.args.tag) (λ z ne. modified_other x.number z c.args.mask c.args.tag ne)

same_keys : (g : Over) (c : goal.After-self-2-1 g) → map number_in (set c.self.inside.slots.slots c.args.id.0 (Some (next g c))) ≡ map number_in c.self.inside.slots.slots
same_keys g c = keys_same c.self.inside.slots.slots c.args.id.0 c.index_mut-changed.result.now (next g c) c.index_mut-changed.ensures.value refl

guards_changed : (g : Over) (c : goal.After-self-2-1 g) → Replaced c.self.inside.slots.slots (set c.self.inside.slots.slots c.args.id.0 (Some (next g c))) c.args.id.0 c.index_mut-changed.result.now (next g c)
    → c.with_one-self-inside.result ≡ count_by is_exclusive_slot (set c.self.inside.slots.slots c.args.id.0 (Some (next g c)))
guards_changed g c s =
    let old = c.self.inside.slots.slots in
    let new = set old c.args.id.0 (Some (next g c)) in
    let x = c.index_mut-changed.result.now in
    let b = count_but old new c.args.id.0 s.others in
    let o : one (is_exclusive_slot (get_or old c.args.id.0 None)) ≡ one (is_exclusive x) = λ i. one (is_exclusive_slot (s.was i)) in
    let n : one (is_exclusive_slot (get_or new c.args.id.0 None)) ≡ one (is_exclusive (next g c)) = λ i. one (is_exclusive_slot (s.here i)) in
    let d : one c.is_exclusive.result ≡ one (is_exclusive x) = ap one c.is_exclusive.ensures in
    let e : one c.is_exclusive-2.result ≡ one (is_exclusive (next g c)) = ap one c.is_exclusive-2.ensures in
    omega (arith, c.self.invariant.guards, b, o, n, d, e, c.without_one-others.ensures, c.with_one-self-inside.ensures)

pub invariant_of-self : goal.invariant_of-self
invariant_of-self g c =
    let k = c.self.inside in let x = c.index_mut-changed.result.now in let s = in_slots g c in
    let after = set k.slots.slots c.args.id.0 (Some (next g c)) in
    record {
      numbered = numbered_next k.slots.slots after c.args.id.0 x (next g c) s.was s.here s.others refl k.added c.self.invariant.numbered;
      by_key = index_next key_of k.slots.slots after c.args.id.0 x (next g c) s.was s.here s.others refl (hash.get same_key k.by_key) c.self.invariant.by_key;
      by_instance = rows_changed k.slots.slots after k.added (modified x.number c.args.mask c.args.tag) (same_keys g c) (changed g c) (modified_keeps x.number c.args.mask c.args.tag).number instance_of (modified_keeps x.number c.args.mask c.args.tag).instance_kept k.by_instance c.self.invariant.by_instance;
      by_target = rows_changed k.slots.slots after k.added (modified x.number c.args.mask c.args.tag) (same_keys g c) (changed g c) (modified_keeps x.number c.args.mask c.args.tag).number target_of (modified_keeps x.number c.args.mask c.args.tag).target_kept k.by_target c.self.invariant.by_target;
      passing = passing_replaced k.slots.slots after k.passes.keys.items c.args.id.0 x (next g c) s refl c.self.invariant.passing;
      room = rw (length-set k.slots.slots c.args.id.0 (Some (next g c))) c.self.invariant.room;
      guards = guards_changed g c s;
    }

pub returns-clause-entries : goal.returns-clause-entries
returns-clause-entries g c =
    let k = c.self.inside in let x = c.index_mut-changed.result.now in let s = in_slots g c in
    let after = set k.slots.slots c.args.id.0 (Some (next g c)) in
    subst (λ (r : Registrations). in_order after k.added ≡ map (modified (unwrap_or (number_under r c.args.id) 0) c.args.mask c.args.tag) r.entries) c.self.view_is
    (changed g c ∙ ap (λ (n : ℕ). map (modified n c.args.mask c.args.tag) (in_order k.slots.slots k.added)) (sym (number_is k.slots.slots c.args.id.0 x s.was)))

pub returns-clause-keys : goal.returns-clause-keys
returns-clause-keys g c = same_keys g c ∙ ap (λ (r : Registrations). r.keys) c.self.view_is
