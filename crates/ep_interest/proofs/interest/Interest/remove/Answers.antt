use Rattle.std.proofs.Common.{◌≡◌, ℕ, List, None, Option, ap, arith, cond, count_by, get_or, false, filter, map, slice_set, subst, sym, unwrap_or, ◌∙◌}
use Rattle.std.proofs.lemmas.List.{length-set}
use Rattle.std.specs.HashMap as hash
use Rattle.ep_interest.specs.ByNumber.{in_order}
use Rattle.ep_interest.specs.Passes.{passes_on}
use Rattle.ep_interest.specs.Registrations.{Registrations, is_other, number_under}
use Rattle.ep_interest.specs.View.{IsIndex, instance_of, key_of, number_in, same_key, target_of}
use Rattle.ep_interest.specs.declared.entry.Entry.{Entry}
use Rattle.ep_interest.proofs.IndexLemmas.{index_less}
use Rattle.ep_interest.proofs.ReplaceLemmas.{number_is}
use Rattle.ep_interest.proofs.RemoveLemmas.{Emptied, held_less, keys_less, numbered_less}
use Rattle.ep_interest.proofs.KeyLemmas.{same_key_exact, same_key_self}
use Rattle.ep_interest.proofs.PassesLemmas.{held_within, passing_one, room_for}
use Rattle.ep_interest.proofs.KeysWithLemmas.{rows_less, rows_there}
use Rattle.ep_interest.proofs.GuardsLemmas.{count_but, one}
use Rattle.ep_interest.specs.Exclusive.{is_exclusive, is_exclusive_slot}
use Rattle.ep_interest.proofs.interest.Interest.remove.Given.{Over}
use Rattle.ep_interest.proofs.interest.Interest.remove.Goals as goal

in_slots : (g : Over) (c : goal.After-remove-2 g) → Emptied c.self.inside.slots.slots c.remove-entry.new.self.slots c.args.id.0 c.remove-entry.result
in_slots g c = record { was = c.remove-entry.ensures.value; gone = c.remove-entry.ensures.updates.changed; others = c.remove-entry.ensures.updates.others }

by_key : (g : Over) (c : goal.After-remove-2 g) → IsIndex key_of c.remove-entry.new.self.slots (hash.get same_key c.swap_remove.new.self)
by_key g c =
    let k = c.self.inside in let x = c.remove-entry.result in let s = in_slots g c in
    index_less key_of k.slots.slots c.remove-entry.new.self.slots c.args.id.0 x s.was s.gone s.others (hash.get same_key k.by_key) (hash.get same_key c.swap_remove.new.self) (same_key (key_of x)) (same_key_self (key_of x)) (same_key_exact (key_of x))
    (λ q. c.swap_remove.ensures.updates.0 q ∙ (λ i. cond (same_key (c.new-key.ensures i) q) None (hash.get same_key k.by_key q))) c.self.invariant.by_key

pub remove-requires-clause-sound : goal.remove-requires-clause-sound
remove-requires-clause-sound g c = c.self.invariant.by_instance.sound

pub remove-requires-clause-there : goal.remove-requires-clause-there
remove-requires-clause-there g c = let k = c.self.inside in rows_there k.slots.slots k.added c.self.invariant.numbered instance_of c.args.id.0 c.remove-entry.result c.remove-entry.ensures.value k.by_instance c.self.invariant.by_instance

pub remove-requires-2-clause-sound : goal.remove-requires-2-clause-sound
remove-requires-2-clause-sound g c = c.self.invariant.by_target.sound

pub remove-requires-2-clause-there : goal.remove-requires-2-clause-there
remove-requires-2-clause-there g c = let k = c.self.inside in rows_there k.slots.slots k.added c.self.invariant.numbered target_of c.args.id.0 c.remove-entry.result c.remove-entry.ensures.value k.by_target c.self.invariant.by_target

pub follow-requires-clause-room : goal.follow-requires-clause-room
follow-requires-clause-room g c off =
    let k = c.self.inside in
    let was = c.remove-entry.ensures.value in
    let fits = room_for k.slots.slots k.passes.keys.items c.args.id.0 c.self.invariant.passing (held_within k.slots.slots c.args.id.0 c.remove-entry.result was) (c.self.invariant.passing.each c.args.id.0 ∙ (ap passes_on was ∙ sym c.is_event.ensures ∙ off)) in
    omega (arith, fits, c.self.invariant.room)

guards_left : (g : Over) (c : goal.After-remove-2 g) → Emptied c.self.inside.slots.slots c.remove-entry.new.self.slots c.args.id.0 c.remove-entry.result
    → c.without_one-self-inside.result ≡ count_by is_exclusive_slot c.remove-entry.new.self.slots
guards_left g c s =
    let old = c.self.inside.slots.slots in
    let new = c.remove-entry.new.self.slots in
    let b = count_but old new c.args.id.0 s.others in
    let o : one (is_exclusive_slot (get_or old c.args.id.0 None)) ≡ one (is_exclusive c.remove-entry.result) = λ i. one (is_exclusive_slot (s.was i)) in
    let n : one (is_exclusive_slot (get_or new c.args.id.0 None)) ≡ 0 = λ i. one (is_exclusive_slot (s.gone i)) in
    let e : one c.is_exclusive.result ≡ one (is_exclusive c.remove-entry.result) = ap one c.is_exclusive.ensures in
    omega (arith, c.self.invariant.guards, b, o, n, e, c.without_one-self-inside.ensures)

pub invariant_of-self : goal.invariant_of-self
invariant_of-self g c = record {
  numbered = numbered_less c.self.inside.slots.slots c.remove-entry.new.self.slots c.args.id.0 c.remove-entry.result (in_slots g c) c.self.inside.added c.self.invariant.numbered;
  by_key = by_key g c;
  by_instance = rows_less c.self.inside.slots.slots c.remove-entry.new.self.slots c.args.id.0 c.remove-entry.result (in_slots g c) c.self.inside.added c.self.invariant.numbered instance_of c.self.inside.by_instance c.remove.new.self c.self.invariant.by_instance c.remove.ensures.sound c.remove.ensures.rows;
  by_target = rows_less c.self.inside.slots.slots c.remove-entry.new.self.slots c.args.id.0 c.remove-entry.result (in_slots g c) c.self.inside.added c.self.invariant.numbered target_of c.self.inside.by_target c.remove-2.new.self c.self.invariant.by_target c.remove-2.ensures.sound c.remove-2.ensures.rows;
  passing = let k = c.self.inside in let s = in_slots g c in passing_one k.slots.slots c.remove-entry.new.self.slots k.passes.keys.items c.follow.new.self.keys.items c.args.id.0 false c.self.invariant.passing c.follow.ensures.once c.follow.ensures.noted (ap passes_on s.gone) s.others;
  room = rw (c.remove-entry.ensures.slots, length-set c.self.inside.slots.slots c.args.id.0 None) (omega (arith, c.follow.ensures.kept, c.self.invariant.room));
  guards = guards_left g c (in_slots g c);
}

pub returns-clause-entries : goal.returns-clause-entries
returns-clause-entries g c =
    let k = c.self.inside in let x = c.remove-entry.result in let s = in_slots g c in
    subst (λ (r : Registrations). in_order c.remove-entry.new.self.slots k.added ≡ filter (is_other (unwrap_or (number_under r c.args.id) 0)) r.entries) c.self.view_is
    (held_less k.slots.slots c.remove-entry.new.self.slots c.args.id.0 x s k.added c.self.invariant.numbered ∙ ap (λ (n : ℕ). filter (is_other n) (in_order k.slots.slots k.added)) (sym (number_is k.slots.slots c.args.id.0 x s.was)))

pub returns-clause-keys : goal.returns-clause-keys
returns-clause-keys g c = ap (λ (xs : List (Option Entry)). map number_in xs) c.remove-entry.ensures.slots ∙ (keys_less c.self.inside.slots.slots c.args.id.0 ∙ ap (λ (r : Registrations). slice_set r.keys c.args.id.0 None) c.self.view_is)
