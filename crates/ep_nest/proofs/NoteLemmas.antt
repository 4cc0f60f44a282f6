-- Instances that are noted once each.
use Rattle.ep_machine.specs.Lists.{are_distinct, is_among}
use Rattle.ep_nest.proofs.GatherLemmas.{distinct_push}
use Rattle.ep_nest.specs.Marks.{AreNoted}
use Rattle.std.proofs.Common.{Bool, List, [], ap, arith, eq-eqb, eqb, false, get_or, inl, inr, length, not, refl, set, subst, suc, sym, true, zero, ℕ, ◌+◌, ◌++◌, ◌<◌, ◌≤◌, ◌∙◌, ◌∷◌, ◌≡◌, ◌||◌, ◌==◌}
use Rattle.std.proofs.lemmas.Bool.{and_parts, and_from, cases_eq, eqb-true, ne_eqb, not-true, or_cases}
use Rattle.std.proofs.lemmas.List.{get_or-set_other, get_or-set_same}
use Rattle.std.proofs.lemmas.Map.Steps.{length-le_from_distinct_below}
use Rattle.std.specs.List.{IsDistinct, list_any}
use Rattle.ep_facts.proofs.AmongFacts.{apart_from_all}

pub or_turned : (a b c : Bool) → (a || (b || c)) ≡ (b || (a || c))
or_turned true true c = refl
or_turned true false c = refl
or_turned false true c = refl
or_turned false false c = refl

pub among_end : (ks : List ℕ) (k x : ℕ) → is_among (ks ++ k ∷ []) x ≡ ((x == k) || is_among ks x)
among_end [] k x = refl
among_end (j ∷ ks) k x = ap (λ (b : Bool). (x == j) || b) (among_end ks k x) ∙ or_turned (x == j) (x == k) (is_among ks x)

as_distinct : (ks : List ℕ) → are_distinct ks ≡ true → IsDistinct eqb ks
unfolding IsDistinct
as_distinct [] h = tt
as_distinct (k ∷ ks) h =
    let parts = and_parts (not (is_among ks k)) (are_distinct ks) h in (apart_from_all k ks (not-true (is_among ks k) parts.0), as_distinct ks parts.1)

-- a mark is within the table
pub below_marks : (ms : List Bool) (x : ℕ) → get_or ms x false ≡ true → x < length ms
below_marks [] x h = absurd (let bad : false ≡ true = h in cc)
below_marks (m ∷ ms) zero h = omega arith
below_marks (m ∷ ms) (suc x) h = let rest = below_marks ms x h in omega (arith, rest)

module _ (ms : List Bool) (ks : List ℕ) (k : ℕ) (noted : AreNoted ms ks) (lt : k < length ms) (off : get_or ms k false ≡ false) where
  fresh : is_among ks k ≡ false
  fresh = sym (noted.each k) ∙ off

  -- there is room for one more
  pub room_for : length ks + 1 ≤ length ms
  room_for =
      let below : (q : ℕ) → list_any (eqb q) (k ∷ ks) ≡ true → q < length ms =
      λ q h. elim (or_cases (eqb q k) (is_among ks q) h) [
        | inl same ↦ let e = eqb-true q k same in omega (arith, e, lt)
        | inr there ↦ below_marks ms q (noted.each q ∙ there)
      ] in
      let few = length-le_from_distinct_below (k ∷ ks) (length ms) (as_distinct (k ∷ ks) (and_from (not (is_among ks k)) (are_distinct ks) (ap not fresh) noted.once)) below in
      omega (arith, few)

  marks_more : (x : ℕ) → get_or (set ms k true) x false ≡ ((x == k) || is_among ks x)
  marks_more x = elim (cases_eq x k) [
    | inl same ↦ subst (λ (y : ℕ). get_or (set ms k true) y false ≡ ((y == k) || is_among ks y)) (sym same) (get_or-set_same ms k true false lt ∙ sym (ap (λ (b : Bool). b || is_among ks k) (eq-eqb k k refl)))
    | inr apart ↦ get_or-set_other ms k x true false apart ∙ (noted.each x ∙ sym (ap (λ (b : Bool). b || is_among ks x) (ne_eqb x k apart)))
  ]

  pub noted_more : AreNoted (set ms k true) (ks ++ k ∷ [])
  noted_more = record {
    each = λ x. marks_more x ∙ sym (among_end ks k x);
    once = distinct_push ks k noted.once fresh;
  }

-- where no mark is left, none is noted
pub none_noted : (ms : List Bool) → ((x : ℕ) → get_or ms x false ≡ false) → AreNoted ms []
none_noted ms clear = record { each = clear; once = refl }

-- no more are noted than there are marks
pub few_noted : (ms : List Bool) (ks : List ℕ) → AreNoted ms ks → length ks ≤ length ms
few_noted ms ks noted =
    length-le_from_distinct_below ks (length ms) (as_distinct ks noted.once) (λ q h. below_marks ms q (noted.each q ∙ h))
