use Rattle.std.proofs.lemmas.List.{length-set}
use Rattle.std.proofs.Common.{◌≡◌, ℕ, false, None, Some, arith, get_or, ap, map, refl, set, subst, sym, unwrap_or, ◌∙◌}
use Rattle.std.specs.HashMap as hash
use Rattle.ep_interest.specs.ByNumber.{in_order}
use Rattle.ep_interest.specs.Registrations.{Registrations, number_under, reported}
use Rattle.ep_interest.specs.View.{instance_of, key_of, number_in, same_key, target_of}
use Rattle.ep_interest.specs.declared.entry.Entry.{Entry}
use Rattle.ep_interest.proofs.InOrderLemmas.{held_next, numbered_next}
use Rattle.ep_interest.proofs.IndexLemmas.{index_next}
use Rattle.ep_interest.proofs.ReplaceLemmas.{Replaced, reported_keeps, keys_same, number_is, replaced, reported_other, reported_this}
use Rattle.ep_interest.proofs.PassesLemmas.{passing_replaced}
use Rattle.ep_interest.proofs.KeysWithLemmas.{rows_changed}
use Rattle.ep_interest.proofs.GuardsLemmas.{count_but, one}
use Rattle.ep_interest.specs.Exclusive.{is_exclusive_slot}
use Rattle.ep_interest.proofs.interest.Interest.report.Given.{Over}
use Rattle.ep_interest.proofs.interest.Interest.report.Goals as goal

abbrev next : (g : Over) (c : goal.After-self-1 g) → Entry
next g c = record c.index_mut-entry.result.now { armed = c.stays_armed.result; fresh = false; reported_in = c.args.event }

in_slots : (g : Over) (c : goal.After-self-1 g) → Replaced c.self.inside.slots.slots (set c.self.inside.slots.slots c.args.id.0 (Some (next g c))) c.args.id.0 c.index_mut-entry.result.now (next g c)
in_slots g c = replaced c.self.inside.slots.slots c.args.id.0 c.index_mut-entry.result.now (next g c) c.index_mut-entry.ensures.value

-- the registrations in order, with that one changed
changed : (g : Over) (c : goal.After-self-1 g) → in_order (set c.self.inside.slots.slots c.args.id.0 (Some (next g c))) c.self.inside.added ≡ map (reported c.index_mut-entry.result.now.number c.args.event) (in_order c.self.inside.slots.slots c.self.inside.added)
changed g c =
    let k = c.self.inside in let x = c.index_mut-entry.result.now in let s = in_slots g c in
    let after = set k.slots.slots c.args.id.0 (Some (next g c)) in
    held_next k.slots.slots after c.args.id.0 x (next g c) s.was s.here s.others refl k.added c.self.invariant.numbered (reported x.number c.args.event) (reported_this x c.args.event ∙ (λ i. record x { armed = sym c.stays_armed.ensures i; fresh = false; reported_in = c.args.event })) (λ z ne. reported_other x.number z c.args.event ne)

same_keys : (g : Over) (c : goal.After-self-1 g) → map number_in (set c.self.inside.slots.slots c.args.id.0 (Some (next g c))) ≡ map number_in c.self.inside.slots.slots
same_keys g c = keys_same c.self.inside.slots.slots c.args.id.0 c.index_mut-entry.result.now (next g c) c.index_mut-entry.ensures.value refl

pub invariant_of-self : goal.invariant_of-self
invariant_of-self g c =
    let k = c.self.inside in let x = c.index_mut-entry.result.now in let s = in_slots g c in
    let after = set k.slots.slots c.args.id.0 (Some (next g c)) in
    record {
      numbered = numbered_next k.slots.slots after c.args.id.0 x (next g c) s.was s.here s.others refl k.added c.self.invariant.numbered;
      by_key = index_next key_of k.slots.slots after c.args.id.0 x (next g c) s.was s.here s.others refl (hash.get same_key k.by_key) c.self.invariant.by_key;
      by_instance = rows_changed k.slots.slots after k.added (reported x.number c.args.event) (same_keys g c) (changed g c) (reported_keeps x.number c.args.event).number instance_of (reported_keeps x.number c.args.event).instance_kept k.by_instance c.self.invariant.by_instance;
      by_target = rows_changed k.slots.slots after k.added (reported x.number c.args.event) (same_keys g c) (changed g c) (reported_keeps x.number c.args.event).number target_of (reported_keeps x.number c.args.event).target_kept k.by_target c.self.invariant.by_target;
      passing = passing_replaced k.slots.slots after k.passes.keys.items c.args.id.0 x (next g c) s refl c.self.invariant.passing;
      room = rw (length-set k.slots.slots c.args.id.0 (Some (next g c))) c.self.invariant.room;
      guards = let b = count_but k.slots.slots after c.args.id.0 s.others in let g : one (is_exclusive_slot (get_or after c.args.id.0 None)) ≡ one (is_exclusive_slot (get_or k.slots.slots c.args.id.0 None)) = (λ i. one (is_exclusive_slot (s.here i))) ∙ sym (λ i. one (is_exclusive_slot (s.was i))) in omega (arith, c.self.invariant.guards, b, g);
    }

pub returns-clause-entries : goal.returns-clause-entries
returns-clause-entries g c =
    let k = c.self.inside in let x = c.index_mut-entry.result.now in let s = in_slots g c in
    let after = set k.slots.slots c.args.id.0 (Some (next g c)) in
    subst (λ (r : Registrations). in_order after k.added ≡ map (reported (unwrap_or (number_under r c.args.id) 0) c.args.event) r.entries) c.self.view_is
    (changed g c ∙ ap (λ (n : ℕ). map (reported n c.args.event) (in_order k.slots.slots k.added)) (sym (number_is k.slots.slots c.args.id.0 x s.was)))

pub returns-clause-keys : goal.returns-clause-keys
returns-clause-keys g c = same_keys g c ∙ ap (λ (r : Registrations). r.keys) c.self.view_is
