-- Marked instances, taken once each.
use Rattle.ep_base.specs.declared.ids.DescId.{DescId}
use Rattle.ep_machine.specs.Lists.{are_distinct, is_among}
use Rattle.ep_nest.proofs.ElementLemmas.{among, from_among}
use Rattle.ep_nest.specs.Links.{keys}
use Rattle.ep_nest.specs.Marks.{IsMarked}
use Rattle.std.proofs.Common.{Bool, List, [], ap, eq-eqb, eqb, false, get_or, inl, inr, length, not, refl, set, subst, sym, true, ℕ, ◌++◌, ◌<◌, ◌∙◌, ◌∷◌, ◌≡◌, ◌⊎◌}
use Rattle.std.proofs.lemmas.Bool.{and_from, and_parts, cases_Bool, cases_eq, not-true}
use Rattle.std.proofs.lemmas.List.{get_or-set_other, get_or-set_same, map-append}
use Rattle.std.proofs.lemmas.List.Elements.{Contains-append_left}
use Rattle.ep_facts.proofs.AmongFacts.{among_push}

pub keys_push : (ds : List DescId) (d : DescId) → keys (ds ++ d ∷ []) ≡ keys ds ++ d.0 ∷ []
keys_push ds d = map-append (λ (d : DescId). d.0) ds (d ∷ [])

pub among_still : (ks : List ℕ) (k x : ℕ) → is_among ks x ≡ true → is_among (ks ++ k ∷ []) x ≡ true
among_still ks k x h = among (ks ++ k ∷ []) x (Contains-append_left ks (k ∷ []) x (from_among ks x h))

among_here : (ks : List ℕ) (j k : ℕ) → is_among ks j ≡ false → (j ≡ k → ⊥) → is_among (ks ++ k ∷ []) j ≡ false
among_here ks j k h apart = elim (cases_Bool (is_among (ks ++ k ∷ []) j)) [
  | inl yes' ↦ elim (among_push ks k j yes') [
    | inl old ↦ absurd (let bad : false ≡ true = sym h ∙ old in cc)
    | inr same ↦ absurd (apart same)
  ]
  | inr otherwise ↦ otherwise
]

pub distinct_push : (ks : List ℕ) (k : ℕ) → are_distinct ks ≡ true → is_among ks k ≡ false → are_distinct (ks ++ k ∷ []) ≡ true
distinct_push [] k d h = refl
distinct_push (j ∷ ks) k d h =
    let parts = and_parts (not (is_among ks j)) (are_distinct ks) d in
    let split : (eqb k j ≡ true) ⊎ (eqb k j ≡ false) = cases_Bool (eqb k j) in
    elim split [
      | inl same ↦ absurd (let bad : true ≡ false = rw same at h in cc)
      | inr apart ↦
          let later : is_among ks k ≡ false = rw apart at h in
          let ne : j ≡ k → ⊥ = λ e. (let bad : true ≡ false = sym (eq-eqb k j (sym e)) ∙ apart in cc) in
          let head : is_among (ks ++ k ∷ []) j ≡ false = among_here ks j k (not-true (is_among ks j) parts.0) ne in
          and_from (not (is_among (ks ++ k ∷ []) j)) (are_distinct (ks ++ k ∷ [])) (ap not head) (distinct_push ks k parts.1 later)
    ]

pub unmarked_here : (ms : List Bool) (x : ℕ) → x < length ms → get_or (set ms x false) x false ≡ false
unmarked_here ms x l = get_or-set_same ms x false false l

pub unmarked_still : (ms : List Bool) (x z : ℕ) → x < length ms → get_or ms z false ≡ false → get_or (set ms x false) z false ≡ false
unmarked_still ms x z l h = elim (cases_eq z x) [
  | inl same ↦ subst (λ (w : ℕ). get_or (set ms x false) w false ≡ false) (sym same) (unmarked_here ms x l)
  | inr apart ↦ get_or-set_other ms x z false false apart ∙ h
]

pub marked_before : (ms : List Bool) (x z : ℕ) → x < length ms → IsMarked (set ms x false) z → IsMarked ms z
marked_before ms x z l h = elim (cases_eq z x) [
  | inl same ↦ absurd (let gone = subst (λ (w : ℕ). get_or (set ms x false) w false ≡ false) (sym same) (unmarked_here ms x l) in let bad : false ≡ true = sym gone ∙ h in cc)
  | inr apart ↦ sym (get_or-set_other ms x z false false apart) ∙ h
]
