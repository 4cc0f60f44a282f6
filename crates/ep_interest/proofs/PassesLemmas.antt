-- The keys of the registrations that pass something on.
use mathlib.Core.Bool.{beq}
use Rattle.std.proofs.Common.{◌≡◌, ◌≢◌, ◌&&◌, ◌||◌, ◌==◌, ◌<◌, ℕ, zero, suc, set, Bool, true, false, not, cond, List, [], ◌∷◌, ◌++◌, map, length, nat_eq, nat_lt, eqb, Option, Some, None, get_or, slice_get, refl, ap, sym, subst, ◌∙◌, inl, inr, filter, arith, if◌then◌else◌}
use Rattle.std.proofs.lemmas.Bool.{cases_Bool, ltb-false}
use Rattle.std.proofs.lemmas.Bool.Decides.{eqb_tells}
use Rattle.std.proofs.lemmas.Cmp.{nat_eq_equiv}
use Rattle.std.proofs.lemmas.List.{map-append}
use Rattle.std.proofs.lemmas.List.Sorted.{IsPermutation-map, IsPermutation-swap_remove, list_any-IsPermutation}
use Rattle.std.proofs.lemmas.Map.Keys.{IsDistinct-IsPermutation, IsDistinct-push}
use Rattle.std.specs.List.Sorted.{IsPermutation}
use Rattle.std.proofs.lemmas.Map.Steps.{length-le_from_distinct_below}
use Rattle.std.specs.List.{AllByRecursion, IsDistinct, list_any, swap_remove}
use Rattle.std.specs.Option.{option_map}
use Rattle.ep_facts.proofs.NatFacts.{same_or_not, same_test, test_apart, test_turned}
use Rattle.ep_base.specs.declared.ids.DescId.{DescId}
use Rattle.ep_base.specs.declared.ids.EntryId.{EntryId}
use Rattle.ep_base.specs.declared.mask.Mask.{Mask}
use Rattle.ep_machine.specs.Counts.{brings}
use Rattle.ep_interest.specs.InTurn.{Among, changed_at}
use Rattle.ep_interest.specs.Passes.{ArePassing, has_id, key_numbers, passes_on}
use Rattle.ep_interest.specs.Registrations.{freshened_on, is_on, settled}
use Rattle.ep_interest.specs.declared.entry.Entry.{Entry}
use Rattle.ep_interest.proofs.ReplaceLemmas.{Replaced}
use Rattle.ep_interest.proofs.InTurnLemmas.{changed_all}

-- one key is noted or not, the others as before
pub passing_one : (old new : List (Option Entry)) (ids js : List EntryId) (key : ℕ) (b : Bool) → ArePassing old ids → IsDistinct nat_eq (key_numbers js) → ((k : ℕ) → has_id js k ≡ (if nat_eq key k then b else has_id ids k))
    → passes_on (get_or new key None) ≡ b → ((k : ℕ) → k ≢ key → get_or new k None ≡ get_or old k None) → ArePassing new js
passing_one old new ids js key b h once noted here others = record {
  each = λ k. noted k ∙ elim (eqb_tells key k) [
    | inl p ↦ rw p.0 (sym here ∙ ap (λ (j : ℕ). passes_on (get_or new j None)) p.1)
    | inr p ↦ rw p.0 (h.each k ∙ ap passes_on (sym (others k (λ e. p.1 (sym e)))))
  ];
  once = once;
}

-- the same registrations pass something on
pub passing_same : (old new : List (Option Entry)) (ids js : List EntryId) → js ≡ ids → ((k : ℕ) → passes_on (get_or new k None) ≡ passes_on (get_or old k None)) → ArePassing old ids → ArePassing new js
passing_same old new ids js e same h = subst (λ (ks : List EntryId). ArePassing new ks) (sym e) (record { each = λ k. h.each k ∙ sym (same k); once = h.once })

-- another registration in the place of one, which passes as much on
pub passing_replaced : (old new : List (Option Entry)) (ids : List EntryId) (key : ℕ) (x y : Entry) → Replaced old new key x y → y.passes_in ≡ x.passes_in → ArePassing old ids → ArePassing new ids
passing_replaced old new ids key x y r e h = passing_same old new ids ids refl same h
  where
    same : (k : ℕ) → passes_on (get_or new k None) ≡ passes_on (get_or old k None)
    same k = elim (same_or_not k key) [
      | inl at ↦ ap (λ (j : ℕ). passes_on (get_or new j None)) at ∙ (ap passes_on r.here ∙ (ap (nat_lt 0) e ∙ (ap passes_on (sym r.was) ∙ ap (λ (j : ℕ). passes_on (get_or old j None)) (sym at))))
      | inr ne ↦ ap passes_on (r.others k ne)
    ]

-- one more, which passes nothing on, in a free slot
pub passing_more : (old new : List (Option Entry)) (ids js : List EntryId) → js ≡ ids → (key : ℕ) (y : Entry) → get_or old key None ≡ None → get_or new key None ≡ Some y → y.passes_in ≡ 0 → ((k : ℕ) → k ≢ key → get_or new k None ≡ get_or old k None) → ArePassing old ids → ArePassing new js
passing_more old new ids js e key y free here rests others h = passing_same old new ids js e same h
  where
    same : (k : ℕ) → passes_on (get_or new k None) ≡ passes_on (get_or old k None)
    same k = elim (same_or_not k key) [
      | inl at ↦ ap (λ (j : ℕ). passes_on (get_or new j None)) at ∙ (ap passes_on here ∙ (ap (nat_lt 0) rests ∙ (ap passes_on (sym free) ∙ ap (λ (j : ℕ). passes_on (get_or old j None)) (sym at))))
      | inr ne ↦ ap passes_on (others k ne)
    ]

-- each registration changed, and what each passes on kept
pub passing_changed : (f : Entry → Entry) → ((x : Entry) → (f x).passes_in ≡ x.passes_in) → (old new : List (Option Entry)) (ids : List EntryId) → new ≡ map (option_map f) old → ArePassing old ids → ArePassing new ids
passing_changed f keeps old new ids e h = passing_same old new ids ids refl (λ k. ap (λ (xs : List (Option Entry)). passes_on (get_or xs k None)) e ∙ same old k) h
  where
    same : (slots : List (Option Entry)) (k : ℕ) → passes_on (get_or (map (option_map f) slots) k None) ≡ passes_on (get_or slots k None)
    same [] k = refl
    same (None ∷ slots) zero = refl
    same (Some x ∷ slots) zero = ap (nat_lt 0) (keeps x)
    same (o ∷ slots) (suc k) = same slots k

pub freshened_passes : (desc : DescId) (bits : Mask) (x : Entry) → (freshened_on desc bits x).passes_in ≡ x.passes_in
freshened_passes desc bits x = elim (is_on desc x && brings x.mask.0 bits.0) as (λ b. (cond b (record x { fresh = true }) x).passes_in ≡ x.passes_in) [ true ↦ refl | false ↦ refl ]

-- nothing passes anything on
pub passing_settled : (old new : List (Option Entry)) (ids : List EntryId) → new ≡ map (option_map settled) old → ids ≡ [] → ArePassing new ids
unfolding IsDistinct
passing_settled old new ids e none = subst (λ (js : List EntryId). ArePassing new js) (sym none) (record { each = λ k. sym (ap (λ (xs : List (Option Entry)). passes_on (get_or xs k None)) e ∙ off old k); once = tt })
  where
    off : (slots : List (Option Entry)) (k : ℕ) → passes_on (get_or (map (option_map settled) slots) k None) ≡ false
    off [] k = refl
    off (None ∷ slots) zero = refl
    off (Some x ∷ slots) zero = refl
    off (o ∷ slots) (suc k) = off slots k

pub passing_none : ArePassing [] []
unfolding IsDistinct
passing_none = record { each = λ k. refl; once = tt }

-- settling those that pass something on settles all
among : (k : ℕ) (ids : List EntryId) → has_id ids k ≡ true → Among k ids
among k [] h = absurd cc
among k (id ∷ ids) h = elim (eqb_tells k id.0) [
  | inl p ↦ inl (sym p.1)
  | inr p ↦ inr (among k ids (rw p.0 at h))
]

pub settled_all : (ids : List EntryId) (slots : List (Option Entry)) → ArePassing slots ids → changed_at settled ids slots ≡ map (option_map settled) slots
settled_all ids slots h = changed_all settled (λ x. refl) ids slots (λ k x is. elim (cases_Bool (has_id ids k)) [
  | inl t ↦ inr (among k ids t)
  | inr f ↦
      let off : nat_lt 0 x.passes_in ≡ false = sym (ap passes_on is) ∙ (sym (h.each k) ∙ f) in
      let le = ltb-false 0 x.passes_in off in
      let rests : x.passes_in ≡ 0 = omega (arith, le) in
      inl (λ i. record x { passes_in = sym rests i })
])

-- Room for one more, as each key is below the length of the slots.
all_apart : (k : ℕ) (xs : List ℕ) → list_any (nat_eq k) xs ≡ false → AllByRecursion (λ y. nat_eq k y ≡ false) xs
all_apart k [] h = tt
all_apart k (x ∷ xs) h = elim (cases_Bool (nat_eq k x)) [
  | inl t ↦ absurd (let bad : true ≡ false = rw t at h in cc)
  | inr f ↦ (f, all_apart k xs (rw f at h))
]

none_apart : (k : ℕ) (xs : List ℕ) → AllByRecursion (λ y. nat_eq k y ≡ false) xs → list_any (nat_eq k) xs ≡ false
none_apart k [] h = refl
none_apart k (x ∷ xs) h = rw h.0 (none_apart k xs h.1)

slot_within : (slots : List (Option Entry)) (k : ℕ) → passes_on (get_or slots k None) ≡ true → k < length slots
slot_within [] k h = absurd cc
slot_within (o ∷ slots) zero h = omega arith
slot_within (o ∷ slots) (suc k) h = let lt = slot_within slots k h in omega (arith, lt)

pub held_within : (slots : List (Option Entry)) (k : ℕ) (x : Entry) → get_or slots k None ≡ Some x → k < length slots
held_within [] k x h = absurd cc
held_within (o ∷ slots) zero x h = omega arith
held_within (o ∷ slots) (suc k) x h = let lt = held_within slots k x h in omega (arith, lt)

length_numbers : (ids : List EntryId) → length (key_numbers ids) ≡ length ids
length_numbers [] = refl
length_numbers (id ∷ ids) = ap suc (length_numbers ids)

pub room_for : (slots : List (Option Entry)) (ids : List EntryId) (k : ℕ) → ArePassing slots ids → k < length slots → has_id ids k ≡ false → length ids < length slots
unfolding IsDistinct
room_for slots ids k h lt off =
    let fits = length-le_from_distinct_below (k ∷ key_numbers ids) (length slots) (all_apart k (key_numbers ids) off, h.once) below in
    omega (arith, fits, length_numbers ids)
  where
    below : (q : ℕ) → list_any (eqb q) (k ∷ key_numbers ids) ≡ true → q < length slots
    below q t = elim (eqb_tells q k) [
      | inl p ↦ subst (λ (j : ℕ). j < length slots) (sym p.1) lt
      | inr p ↦ slot_within slots q (sym (h.each q) ∙ (rw p.0 at t))
    ]

-- What `follow` leaves in the list.
pub was_off : (before after : Bool) → after ≡ true → beq before after ≡ false → before ≡ false
was_off true true e h = absurd cc
was_off true false e h = absurd cc
was_off false after e h = refl

pub once_more : (ids : List EntryId) (id : EntryId) → IsDistinct nat_eq (key_numbers ids) → has_id ids id.0 ≡ false → IsDistinct nat_eq (key_numbers (ids ++ id ∷ []))
once_more ids id once off = subst (λ (xs : List ℕ). IsDistinct nat_eq xs) (sym (map-append (λ (j : EntryId). j.0) ids (id ∷ []))) (IsDistinct-push nat_eq_equiv (key_numbers ids) id.0 once off)

abbrev pub other_than : EntryId → EntryId → Bool
other_than id x = not (x.0 == id.0)

apart_filter : (k : ℕ) (id : EntryId) (ids : List EntryId) → AllByRecursion (λ y. nat_eq k y ≡ false) (key_numbers ids) → AllByRecursion (λ y. nat_eq k y ≡ false) (key_numbers (filter (other_than id) ids))
apart_filter k id [] h = tt
apart_filter k id (x ∷ ids) h = elim (cases_Bool (other_than id x)) [
  | inl t ↦ rw t (h.0, apart_filter k id ids h.1)
  | inr f ↦ rw f (apart_filter k id ids h.1)
]

pub once_less : (id : EntryId) (ids : List EntryId) → IsDistinct nat_eq (key_numbers ids) → IsDistinct nat_eq (key_numbers (filter (other_than id) ids))
unfolding IsDistinct
once_less id [] h = tt
once_less id (x ∷ ids) h = elim (cases_Bool (other_than id x)) [
  | inl t ↦ rw t (apart_filter x.0 id ids h.0, once_less id ids h.1)
  | inr f ↦ rw f (once_less id ids h.1)
]

pub noted_less : (id : EntryId) (ids : List EntryId) (k : ℕ) → has_id (filter (other_than id) ids) k ≡ (if nat_eq id.0 k then false else has_id ids k)
noted_less id [] k = elim (cases_Bool (nat_eq id.0 k)) [ inl t ↦ rw t refl | inr f ↦ rw f refl ]
noted_less id (x ∷ ids) k = elim (same_or_not x.0 id.0) [
  | inl e ↦
      let this : (x.0 == id.0) ≡ true = same_test x.0 id.0 e in
      rw this (noted_less id ids k ∙ elim (eqb_tells id.0 k) [
        | inl p ↦ rw p.0 refl
        | inr p ↦ let off : eqb k x.0 ≡ false = test_apart k x.0 (λ q. p.1 (sym e ∙ sym q)) in rw (p.0, off) refl
      ])
  | inr ne ↦
      let this : (x.0 == id.0) ≡ false = test_apart x.0 id.0 ne in
      rw this (elim (eqb_tells id.0 k) [
        | inl p ↦ let off : eqb k x.0 ≡ false = test_apart k x.0 (λ q. ne (sym q ∙ sym p.1)) in rw off (noted_less id ids k ∙ rw p.0 refl)
        | inr p ↦ rw p.0 (ap (λ (b : Bool). eqb k x.0 || b) (noted_less id ids k ∙ rw p.0 refl))
      ])
]

-- the same by the last key in its place
there : (ids : List EntryId) (place : ℕ) (id d : EntryId) → slice_get ids place ≡ Some id → (place < length ids) × (get_or ids place d ≡ id)
there [] place id d h = absurd cc
there (x ∷ ids) zero id d h = (omega arith, cc)
there (x ∷ ids) (suc place) id d h = let t = there ids place id d h in let lt = t.0 in (omega (arith, lt), t.1)

module _ (ids : List EntryId) (place : ℕ) (id key : EntryId) (here : slice_get ids place ≡ Some id) (is : key ≡ get_or ids place key) where
  within : place < length ids
  within = (there ids place id key here).0

  moved : IsPermutation (key_numbers ids) (id.0 ∷ key_numbers (swap_remove ids place key))
  moved = subst (λ (k : EntryId). IsPermutation (key_numbers ids) (k.0 ∷ key_numbers (swap_remove ids place key))) (is ∙ (there ids place id key here).1)
      (IsPermutation-map (λ (j : EntryId). j.0) ids (key ∷ swap_remove ids place key) (IsPermutation-swap_remove ids place key within is))

  left_once : IsDistinct nat_eq (key_numbers ids) → IsDistinct nat_eq (id.0 ∷ key_numbers (swap_remove ids place key))
  left_once once = IsDistinct-IsPermutation nat_eq test_turned (key_numbers ids) _ moved once

  pub once_moved : IsDistinct nat_eq (key_numbers ids) → IsDistinct nat_eq (key_numbers (swap_remove ids place key))
  unfolding IsDistinct
  once_moved once = (left_once once).1

  pub noted_moved : IsDistinct nat_eq (key_numbers ids) → (k : ℕ) → has_id (swap_remove ids place key) k ≡ (if nat_eq id.0 k then false else has_id ids k)
  unfolding IsDistinct
  noted_moved once k = elim (eqb_tells id.0 k) [
    | inl p ↦ rw p.0 (ap (has_id (swap_remove ids place key)) (sym p.1) ∙ none_apart id.0 (key_numbers (swap_remove ids place key)) (left_once once).0)
    | inr p ↦
        let off : eqb k id.0 ≡ false = test_apart k id.0 (λ q. p.1 (sym q)) in
        let same = list_any-IsPermutation (nat_eq k) (key_numbers ids) _ moved in
        rw p.0 (sym (same ∙ rw off refl))
  ]

-- a slot that holds nothing, written with nothing
pub nothing_set : (slots : List (Option Entry)) (k : ℕ) → get_or slots k None ≡ None → slots ≡ set slots k None
nothing_set [] k h = refl
nothing_set (o ∷ slots) zero h = ap (λ (p : Option Entry). p ∷ slots) h
nothing_set (o ∷ slots) (suc k) h = ap (λ (r : List (Option Entry)). o ∷ r) (nothing_set slots k h)
