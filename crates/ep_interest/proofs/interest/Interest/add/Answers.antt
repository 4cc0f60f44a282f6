use Rattle.std.proofs.Common.{◌≡◌, ◌≤◌, ◌+◌, List, Option, [], ◌∷◌, ◌++◌, false, cond, None, Some, ap, count_by, get_or, is_some, length, refl, sym, subst, vec_capacity, ◌∙◌, arith}
use Rattle.std.specs.HashMap as hash
use Rattle.std.specs.List.{list_any}
use Rattle.std.specs.Map.{lookup}
use Rattle.slab.specs.Slab.{Slab, Updates}
use Rattle.ep_interest.specs.ByNumber.{NumberedBy, in_order}
use Rattle.ep_interest.specs.Passes.{passes_on}
use Rattle.ep_interest.specs.Rows.{row}
use Rattle.ep_interest.specs.Registrations.{GainsKey, Registrations, entry_of, has_key}
use Rattle.ep_interest.specs.View.{HasRows, IsIndex, IsInterest, instance_of, target_of, key_of, registrations, same_key}
use Rattle.ep_interest.specs.declared.entry.Entry.{Entry}
use Rattle.ep_interest.specs.declared.rows.Rows.{Rows}
use Rattle.ep_interest.proofs.AddLemmas.{Inserted, entries_more, inserted, key_more, keys_more, numbers_more, on_ok}
use Rattle.ep_interest.proofs.IndexLemmas.{index_same}
use Rattle.ep_interest.proofs.KeyLemmas.{find_none}
use Rattle.ep_interest.proofs.KeysWithLemmas.{rows_again, rows_few, rows_fresh, rows_more}
use Rattle.ep_interest.proofs.PassesLemmas.{passing_more, passing_same}
use Rattle.ep_interest.proofs.RowLemmas.{joined_there}
use Rattle.ep_interest.proofs.GuardsLemmas.{count_but, one as one_of}
use Rattle.ep_interest.specs.Exclusive.{is_exclusive, is_exclusive_slot}
use Rattle.ep_interest.proofs.interest.Interest.add.Given.{Over}
use Rattle.ep_interest.proofs.interest.Interest.add.Goals as goal
use Rattle.ep_interest.proofs.interest.Interest.add.Goals.{After-vacant_key}

-- no registration has the key that is given out next
vacant : (g : Over) (c : After-vacant_key g) → get_or c.self.inside.slots.slots c.vacant_key.result None ≡ None
vacant g c = ap (λ (s : Slab Entry). get_or s.slots c.vacant_key.result None) (sym c.reserve.ensures.rest_kept) ∙ c.vacant_key.ensures.vacant

pub push-requires-clause-most : goal.push-requires-clause-most
push-requires-clause-most g c =
    let k = c.self.inside in
    let few = rows_few k.slots.slots k.added c.self.invariant.numbered instance_of k.by_instance c.reserve-4.new.self c.self.invariant.by_instance c.reserve-4.ensures.kept c.args.addition.instance.0 in
    let slots : count_by is_some c.reserve.new.self.slots ≡ count_by is_some k.slots.slots = ap (λ (s : Slab Entry). count_by is_some s.slots) c.reserve.ensures.rest_kept in
    omega (arith, few, slots, c.in_ok-reserve.ensures.room, c.capacity-many.ensures.value, c.capacity-many.type_inv)

pub push-requires-clause-fresh : goal.push-requires-clause-fresh
push-requires-clause-fresh g c =
    let k = c.self.inside in
    rows_fresh k.slots.slots k.added c.self.invariant.numbered instance_of c.vacant_key.result (vacant g (goal.at.push-requires-clause-fresh g c).After-vacant_key) k.by_instance c.reserve-4.new.self c.self.invariant.by_instance c.reserve-4.ensures.kept

pub push-requires-2-clause-most : goal.push-requires-2-clause-most
push-requires-2-clause-most g c =
    let k = c.self.inside in
    let few = rows_few k.slots.slots k.added c.self.invariant.numbered target_of k.by_target c.reserve-5.new.self c.self.invariant.by_target c.reserve-5.ensures.kept c.args.addition.desc.0 in
    let slots : count_by is_some c.reserve.new.self.slots ≡ count_by is_some k.slots.slots = ap (λ (s : Slab Entry). count_by is_some s.slots) c.reserve.ensures.rest_kept in
    omega (arith, few, slots, c.in_ok-reserve.ensures.room, c.capacity-many.ensures.value, c.capacity-many.type_inv)

pub push-requires-2-clause-fresh : goal.push-requires-2-clause-fresh
push-requires-2-clause-fresh g c =
    let k = c.self.inside in
    rows_fresh k.slots.slots k.added c.self.invariant.numbered target_of c.vacant_key.result (vacant g (goal.at.push-requires-2-clause-fresh g c).After-vacant_key) k.by_target c.reserve-5.new.self c.self.invariant.by_target c.reserve-5.ensures.kept

abbrev one : (g : Over) (c : goal.After-self-2-1 g) → Entry
one g c = entry_of (c.self.inside.added + 1) c.args.addition

in_slots : (g : Over) (c : goal.After-self-2-1 g) → Inserted c.self.inside.slots.slots c.insert_reserved.new.self.slots c.vacant_key.result (one g c)
in_slots g c = inserted c.self.inside.slots.slots c.reserve.new.self c.insert_reserved.new.self c.insert_reserved.result c.vacant_key.result (one g c) (ap (λ (s : Slab Entry). s.slots) c.reserve.ensures.rest_kept) (c.vacant_key.ensures.value ∙ sym c.insert_reserved.ensures.key) c.insert_reserved.ensures.was_vacant (subst (λ (x : Entry). Updates c.reserve.new.self c.insert_reserved.new.self c.insert_reserved.result (Some x)) c.new-entry.ensures c.insert_reserved.ensures.updates)

by_key : (g : Over) (c : goal.After-self-2-1 g) → IsIndex key_of c.insert_reserved.new.self.slots (hash.get same_key c.insert.new.self)
by_key g c =
    let k = c.self.inside in
    let absent = subst (λ (r : Registrations). list_any (has_key c.args.addition.instance c.args.addition.fd c.args.addition.desc) r.entries ≡ false) (sym c.self.view_is) c.requires.absent in
    let fresh = find_none k.slots.slots k.added c.self.invariant.numbered (hash.get same_key k.by_key) c.self.invariant.by_key c.args.addition.instance c.args.addition.fd c.args.addition.desc absent in
    let u = on_ok c.insert.result (c.insert.ensures.succeeds (omega (arith, c.in_ok-reserve-2.ensures.ok))) c.insert.ensures.updates in
    key_more k.slots.slots c.insert_reserved.new.self.slots c.vacant_key.result (one g c) (in_slots g c) (hash.get same_key k.by_key) (hash.get same_key c.insert.new.self) fresh
    (λ q. u.0 q ∙ (λ i. cond (same_key (c.new-key.ensures i) q) (Some (record { 0 = c.vacant_key.result })) (lookup (same_key q) (c.reserve-2.ensures.entries i))))
    c.self.invariant.by_key

guards_added : (g : Over) (c : goal.After-self-2-1 g) → Inserted c.self.inside.slots.slots c.insert_reserved.new.self.slots c.vacant_key.result (one g c) → c.with_one-self-inside.result ≡ count_by is_exclusive_slot c.insert_reserved.new.self.slots
guards_added g c s =
    let old = c.self.inside.slots.slots in
    let new = c.insert_reserved.new.self.slots in
    let b = count_but old new c.vacant_key.result s.others in
    let o : one_of (is_exclusive_slot (get_or old c.vacant_key.result None)) ≡ 0 = λ i. one_of (is_exclusive_slot (s.was i)) in
    let n : one_of (is_exclusive_slot (get_or new c.vacant_key.result None)) ≡ one_of (is_exclusive (one g c)) = λ i. one_of (is_exclusive_slot (s.here i)) in
    let e : one_of c.is_exclusive.result ≡ one_of (is_exclusive (one g c)) = ap one_of c.is_exclusive.ensures ∙ ap (λ (x : Entry). one_of (is_exclusive x)) c.new-entry.ensures in
    omega (arith, c.self.invariant.guards, b, o, n, e, c.with_one-self-inside.ensures)

pub invariant_of-self-2 : goal.invariant_of-self-2
invariant_of-self-2 g c =
    let k = c.self.inside in
    let s = in_slots g c in
    record {
      numbered = numbers_more k.slots.slots c.insert_reserved.new.self.slots c.vacant_key.result (one g c) s k.added refl c.self.invariant.numbered;
      by_key = by_key g c;
      by_instance = rows_more k.slots.slots c.insert_reserved.new.self.slots c.vacant_key.result (one g c) s k.added refl c.self.invariant.numbered instance_of k.by_instance c.reserve-4.new.self c.push.new.self c.self.invariant.by_instance c.reserve-4.ensures.kept c.push.ensures.sound c.in_ok-push.ensures.rows;
      by_target = rows_more k.slots.slots c.insert_reserved.new.self.slots c.vacant_key.result (one g c) s k.added refl c.self.invariant.numbered target_of k.by_target c.reserve-5.new.self c.push-2.new.self c.self.invariant.by_target c.reserve-5.ensures.kept c.push-2.ensures.sound c.in-Ok.ensures.rows;
      passing = passing_more k.slots.slots c.insert_reserved.new.self.slots k.passes.keys.items c.reserve-3.new.self.keys.items c.reserve-3.ensures.keys c.vacant_key.result (one g c) s.was s.here refl s.others c.self.invariant.passing;
      room = omega (arith, c.capacity-room.ensures.slots, c.capacity-room.ensures.value, c.insert_reserved.ensures.capacity, c.capacity-many.ensures.value, c.in_ok-reserve-3.ensures.room);
      guards = guards_added g c s;
    }

pub returns-clause-entries : goal.returns-clause-entries
returns-clause-entries g c = subst (λ (r : Registrations). in_order c.insert_reserved.new.self.slots (c.self.inside.added + 1) ≡ r.entries ++ entry_of (r.added + 1) c.args.addition ∷ []) c.self.view_is
    (entries_more c.self.inside.slots.slots c.insert_reserved.new.self.slots c.vacant_key.result (one g c) (in_slots g c) c.self.inside.added refl c.self.invariant.numbered)

pub returns-clause-keys : goal.returns-clause-keys
returns-clause-keys g c = subst (λ (r : Registrations). GainsKey r (registrations {A = g.row.A.Denot} (record { slots = c.insert_reserved.new.self; by_key = c.insert.new.self; by_instance = c.push.new.self; by_target = c.push-2.new.self; passes = c.reserve-3.new.self; guards = c.with_one-self-inside.result; added = c.self.inside.added + 1 })) (record { 0 = c.vacant_key.result }) (r.added + 1)) c.self.view_is
    (keys_more c.self.inside.slots.slots c.insert_reserved.new.self.slots c.vacant_key.result (one g c) (in_slots g c) c.self.inside.added refl c.self.invariant.numbered c.self.inside.slots.vacant_key c.insert_reserved.new.self.vacant_key)

pub push-requires-clause-linked : goal.push-requires-clause-linked
push-requires-clause-linked g c = omega (arith, c.in_ok-places.ensures, c.in_ok-reserve-4.ensures.links)

pub push-requires-2-clause-linked : goal.push-requires-2-clause-linked
push-requires-2-clause-linked g c = omega (arith, c.in_ok-places.ensures, c.in_ok-reserve-5.ensures.links)

pub remove-requires-clause-there : goal.remove-requires-clause-there
remove-requires-clause-there g c = joined_there (row c.reserve-4.new.self c.args.addition.instance.0) (row c.push.new.self c.args.addition.instance.0) c.args.addition.instance.0 c.vacant_key.result (c.in_ok-push.ensures.rows c.args.addition.instance.0)

-- where nothing was added, and rows have what they had
nothing_added : (g : Over) (c : After-vacant_key g) (instance target : Rows g.row.A.Denot)
    → HasRows instance_of c.self.inside.slots.slots c.self.inside.added instance
    → HasRows target_of c.self.inside.slots.slots c.self.inside.added target
    → IsInterest {A = g.row.A.Denot} (record { slots = c.reserve.new.self; by_key = c.reserve-2.new.self; by_instance = instance; by_target = target; passes = c.reserve-3.new.self; guards = c.self.inside.guards; added = c.self.inside.added })
nothing_added g c instance target i t =
    let k = c.self.inside in
    let slots = ap (λ (s : Slab Entry). s.slots) (sym c.reserve.ensures.rest_kept) in
    record {
      numbered = subst (λ (xs : List (Option Entry)). NumberedBy xs k.added) slots c.self.invariant.numbered;
      by_key = index_same key_of k.slots.slots c.reserve.new.self.slots slots (hash.get same_key k.by_key) (hash.get same_key c.reserve-2.new.self) (λ q. λ j. lookup (same_key q) (c.reserve-2.ensures.entries j)) c.self.invariant.by_key;
      by_instance = subst (λ (xs : List (Option Entry)). HasRows instance_of xs k.added instance) slots i;
      by_target = subst (λ (xs : List (Option Entry)). HasRows target_of xs k.added target) slots t;
      passing = passing_same k.slots.slots c.reserve.new.self.slots k.passes.keys.items c.reserve-3.new.self.keys.items c.reserve-3.ensures.keys (λ j. ap (λ (xs : List (Option Entry)). passes_on (get_or xs j None)) (sym slots)) c.self.invariant.passing;
      room = subst (λ (xs : List (Option Entry)). length xs ≤ vec_capacity c.reserve-3.new.self.keys) slots (omega (arith, c.self.invariant.room, c.reserve-3.ensures.kept));
      guards = c.self.invariant.guards ∙ ap (count_by is_exclusive_slot) slots;
    }

pub invariant_of-self-in_err-reserve-4 : goal.invariant_of-self-in_err-reserve-4
invariant_of-self-in_err-reserve-4 g c =
    nothing_added g (goal.at.invariant_of-self-in_err-reserve-4 g c).After-vacant_key c.reserve-4.new.self c.self.inside.by_target
    (record { sound = c.reserve-4.ensures.sound; rows = λ i. c.reserve-4.ensures.kept i ∙ c.self.invariant.by_instance.rows i })
    c.self.invariant.by_target

pub invariant_of-self-in_err-reserve-5 : goal.invariant_of-self-in_err-reserve-5
invariant_of-self-in_err-reserve-5 g c =
    nothing_added g (goal.at.invariant_of-self-in_err-reserve-5 g c).After-vacant_key c.reserve-4.new.self c.reserve-5.new.self
    (record { sound = c.reserve-4.ensures.sound; rows = λ i. c.reserve-4.ensures.kept i ∙ c.self.invariant.by_instance.rows i })
    (record { sound = c.reserve-5.ensures.sound; rows = λ i. c.reserve-5.ensures.kept i ∙ c.self.invariant.by_target.rows i })

pub invariant_of-self-in_err-push : goal.invariant_of-self-in_err-push
invariant_of-self-in_err-push g c =
    nothing_added g (goal.at.invariant_of-self-in_err-push g c).After-vacant_key c.push.new.self c.reserve-5.new.self
    (record { sound = c.push.ensures.sound; rows = λ i. c.in_err-push.ensures.kept i ∙ (c.reserve-4.ensures.kept i ∙ c.self.invariant.by_instance.rows i) })
    (record { sound = c.reserve-5.ensures.sound; rows = λ i. c.reserve-5.ensures.kept i ∙ c.self.invariant.by_target.rows i })

-- what was put in one row and taken away leaves no trace
pub invariant_of-self-in-Err : goal.invariant_of-self-in-Err
invariant_of-self-in-Err g c =
    let k = c.self.inside in
    let at = (goal.at.invariant_of-self-in-Err g c).After-vacant_key in
    let fresh = rows_fresh k.slots.slots k.added c.self.invariant.numbered instance_of c.vacant_key.result (vacant g at) k.by_instance c.reserve-4.new.self c.self.invariant.by_instance c.reserve-4.ensures.kept in
    nothing_added g at c.remove.new.self c.push-2.new.self
    (rows_again k.slots.slots k.added instance_of c.args.addition.instance.0 c.vacant_key.result k.by_instance c.reserve-4.new.self c.push.new.self c.remove.new.self c.self.invariant.by_instance c.reserve-4.ensures.kept fresh c.in_ok-push.ensures.rows c.remove.ensures.sound c.remove.ensures.rows)
    (record { sound = c.push-2.ensures.sound; rows = λ i. c.in-Err.ensures.kept i ∙ (c.reserve-5.ensures.kept i ∙ c.self.invariant.by_target.rows i) })
