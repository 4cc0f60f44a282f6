-- Taking registrations off the front of a ready list.
use Rattle.std.proofs.Common.{◌≡◌, ◌<◌, ◌++◌, ◌∙◌, ◌+◌, ℕ, zero, suc, Bool, true, false, IsSome, List, [], ◌∷◌, Option, Some, ap, append-nil, arith, cond, drop, eqb, filter, inl, inr, length, not, refl, rules, subst, sym, take}
use Rattle.std.proofs.lemmas.Bool.{cases_lt}
use Rattle.std.proofs.lemmas.List.{append_assoc, get_or-set_other, get_or-set_same, get_or_past}
use Rattle.std.proofs.lemmas.List.Elements.{filter-append}
use Rattle.std.proofs.Math.Numerals.{suc-eq-add-one}
use Rattle.ep_facts.proofs.BoolFacts.{first_of_and, from_not}
use Rattle.ep_base.specs.declared.ids.EntryId.{EntryId}
use Rattle.ep_machine.specs.Lists.{are_distinct, is_among}
use Rattle.ep_kernel.specs.Take.{SetsList, taken}
use Rattle.ep_rings.specs.KeyWalk.{entry_id}
use Rattle.ep_ready.specs.ReadyLists.{IsSound, Lists, after_removal, after_rotation, front_in, front_of, instance_at, list_at, removal_by, with_list}
use Rattle.ep_rings.specs.PlacedRows.{rotation_of}
use Rattle.ep_rings.proofs.AmongLemmas.{filter_gone}

module _ (l : Lists) (i : ℕ) where
  within : 0 < length (list_at l i) → i < length l.lists
  within some = elim (cases_lt i (length l.lists)) [
    | inl lt ↦ lt
    | inr ge ↦ absurd (omega (arith, some, ap length (get_or_past l.lists i [] ge)))
  ]

  sets : (ks : List ℕ) → 0 < length (list_at l i) → SetsList l (with_list l i ks) i ks
  sets ks some = record {
    here = get_or-set_same l.lists i ks [] (within some);
    others = λ j other. get_or-set_other l.lists i j ks [] other;
    places = λ id. refl;
  }

  first_key : (ks : List ℕ) (id : EntryId) → front_in ks ≡ Some id → (rest : List ℕ) × (ks ≡ id.0 ∷ rest)
  first_key [] id h = absurd (cc)
  first_key (k ∷ ks) id h = (ks, (let e : entry_id k ≡ id = cc in ap (λ (x : EntryId). x.0 ∷ ks) e))

  some_key : (ks : List ℕ) (k : ℕ) (rest : List ℕ) → ks ≡ k ∷ rest → 0 < length ks
  some_key ks k rest e = subst (λ (xs : List ℕ). 0 < length xs) (sym e) (omega arith)

  head_gone : (k : ℕ) (rest : List ℕ) → are_distinct (k ∷ rest) ≡ true → filter (λ x. not (eqb x k)) (k ∷ rest) ≡ rest
  head_gone k rest h = let same : eqb k k ≡ true = search rules in rw same (filter_gone rest k (from_not (is_among rest k) (first_of_and (not (is_among rest k)) (are_distinct rest) h)))

  among_head : (k : ℕ) (rest : List ℕ) → is_among (k ∷ rest) k ≡ true
  among_head k rest = let same : eqb k k ≡ true = search rules in rw same refl

  module _ (stays : ℕ → Bool) (sound : IsSound l) (id : EntryId) (front : front_of l i ≡ Some id) where
    split : (rest : List ℕ) × (list_at l i ≡ id.0 ∷ rest)
    split = first_key (list_at l i) id front

    pub has_place : instance_at l id ≡ Some i
    has_place = sound.own i id (subst (λ (ks : List ℕ). is_among ks id.0 ≡ true) (sym split.1) (among_head id.0 split.0))

    taken_one : (b : Bool) → stays id.0 ≡ b → taken stays 1 (list_at l i) ≡ split.0 ++ cond b (id.0 ∷ []) []
    taken_one b h = ap (taken stays 1) split.1 ∙ ap (λ (c : Bool). split.0 ++ cond c (id.0 ∷ []) []) h

    pub rotated : (new : Lists) → stays id.0 ≡ true → new ≡ after_rotation l i → SetsList l new i (taken stays 1 (list_at l i))
    rotated new h is =
        let turned : rotation_of (list_at l i) ≡ taken stays 1 (list_at l i) = ap rotation_of split.1 ∙ sym (taken_one true h) in
        subst (λ (m : Lists). SetsList l m i (taken stays 1 (list_at l i))) (sym (is ∙ ap (λ (ks : List ℕ). with_list l i ks) turned)) (sets (taken stays 1 (list_at l i)) (some_key (list_at l i) id.0 split.0 split.1))

    pub removed : (new : Lists) → stays id.0 ≡ false → new ≡ after_removal l id → SetsList l new i (taken stays 1 (list_at l i))
    removed new h is =
        let distinct : are_distinct (id.0 ∷ split.0) ≡ true = subst (λ (ks : List ℕ). are_distinct ks ≡ true) split.1 (sound.once i) in
        let left : filter (λ x. not (eqb x id.0)) (list_at l i) ≡ taken stays 1 (list_at l i) =
        ap (filter (λ x. not (eqb x id.0))) split.1 ∙ (head_gone id.0 split.0 distinct ∙ (sym (append-nil split.0) ∙ sym (taken_one false h))) in
        subst (λ (m : Lists). SetsList l m i (taken stays 1 (list_at l i))) (sym (is ∙ (ap (removal_by l id.0) has_place ∙ ap (λ (ks : List ℕ). with_list l i ks) left))) (sets (taken stays 1 (list_at l i)) (some_key (list_at l i) id.0 split.0 split.1))

-- one more from the front
split_at : (xs : List ℕ) (j : ℕ) → j < length xs → (k : ℕ) × (drop j xs ≡ k ∷ drop (suc j) xs) × (take (suc j) xs ≡ take j xs ++ k ∷ [])
split_at [] j lt = absurd (omega arith)
split_at (x ∷ xs) zero lt = (x, refl, refl)
split_at (x ∷ xs) (suc j) lt = let r = split_at xs j (omega arith) in (r.0, r.1, ap (λ (ys : List ℕ). x ∷ ys) r.2)

taken_more : (stays : ℕ → Bool) (xs : List ℕ) (j : ℕ) → j < length xs → taken stays 1 (taken stays j xs) ≡ taken stays (suc j) xs
taken_more stays xs j lt =
    let r = split_at xs j lt in
    let done = filter stays (take j xs) in
    ap (λ (ys : List ℕ). taken stays 1 (ys ++ done)) r.1
    ∙ (append_assoc (drop (suc j) xs) done (filter stays (r.0 ∷ []))
    ∙ ap (λ (ys : List ℕ). drop (suc j) xs ++ ys) (sym (filter-append stays (take j xs) (r.0 ∷ [])) ∙ ap (filter stays) (sym r.2)))

pub takes_more : (stays : ℕ → Bool) (old mid new : Lists) (i j : ℕ) → j < length (list_at old i) → SetsList old mid i (taken stays j (list_at old i)) → SetsList mid new i (taken stays 1 (list_at mid i)) → SetsList old new i (taken stays (j + 1) (list_at old i))
takes_more stays old mid new i j lt before one = record {
  here = one.here ∙ (ap (taken stays 1) before.here ∙ (taken_more stays (list_at old i) j lt ∙ ap (λ (n : ℕ). taken stays n (list_at old i)) (suc-eq-add-one j)));
  others = λ k other. one.others k other ∙ before.others k other;
  places = λ id. one.places id ∙ before.places id;
}

pub some_place : (l : Lists) (id : EntryId) (i : ℕ) → instance_at l id ≡ Some i → IsSome (instance_at l id)
some_place l id i h = subst (λ (o : Option ℕ). IsSome o) (sym h) (search rules)
