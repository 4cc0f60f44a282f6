-- Marks of one caller, of an instance, and of those that are due.
use Rattle.std.proofs.Common.{◌≡◌, ℕ, true, false, ◌<◌, ◌≤◌, List, [], ◌∷◌, Option, Some, None, refl, sym, ap, ◌∙◌, inl, inr, map, nat_eq, eqb, arith, nat_lt, if◌then◌else◌}
use Rattle.std.proofs.Math.Bool.{and-false, and-true, or-false, or-true}
use Rattle.std.proofs.lemmas.Bool.{eq-eqb, eqb-false, lt-ltb}
use Rattle.std.proofs.lemmas.Bool.Decides.{eqb_tells}
use Rattle.std.proofs.lemmas.Map.Keys.{IsDistinct-head, IsDistinct-tail}
use Rattle.std.specs.List.{AllByRecursion, IsDistinct, count_by, list_any}
use Rattle.std.specs.Map.{keys_of, lookup}
use Rattle.std.specs.Option.{option_map}
use Rattle.ep_facts.proofs.NatFacts.{test_turned}
use Rattle.ep_machine.specs.State.{Waiter as Parked}
use Rattle.ep_machine.specs.Waits.{unmark}
use Rattle.ep_park.proofs.TallyLemmas.{any_counted, first_is, marked_is, none_marked}
use Rattle.ep_park.proofs.ViewLemmas.{either}
use Rattle.ep_park.specs.Changes.{with_mark_at, with_mark_of}
use Rattle.ep_park.specs.Tallies.{first_at, is_marked_of, tally_by, tally_of}
use Rattle.ep_park.specs.Waiters.{first_marked, is_at, is_caller, is_marked_caller, listed, longest_marked, parked}
use Rattle.ep_park.specs.declared.tally.Tally.{Tally}
use Rattle.ep_park.specs.declared.waiter.Waiter.{Waiter}

-- no key of the list is this one
abbrev Misses : ℕ → List (ℕ × Waiter) → Type 0
Misses k es = AllByRecursion (λ y. nat_eq k y ≡ false) (keys_of es)

none_of : (c k : ℕ) (es : List (ℕ × Waiter)) → c ≡ k → Misses k es → false ≡ list_any (is_marked_caller c) (listed es)
none_of c k [] is all = refl
none_of c k (e ∷ es) is all =
    let q : eqb e.0 c ≡ false = test_turned e.0 c ∙ (ap (λ n. eqb n e.0) is ∙ all.0) in
    rw q (none_of c k es is all.1)

pub mark_found : (c : ℕ) (w : Waiter) (es : List (ℕ × Waiter)) → IsDistinct nat_eq (keys_of es) → lookup (nat_eq c) es ≡ Some w → w.marked ≡ list_any (is_marked_caller c) (listed es)
mark_found c w [] apart at = absurd (cc)
mark_found c w (e ∷ es) apart at = elim (eqb_tells c e.0) [
  | inl p ↦
      let q : eqb e.0 c ≡ true = test_turned e.0 c ∙ p.0 in
      let here : Some e.1 ≡ Some w = rw p.0 at at in
      let is : e.1 ≡ w = cc in
      let rest = none_of c e.0 es p.1 (IsDistinct-head nat_eq e.0 (keys_of es) apart) in
      rw (q, ← rest, or-false e.1.marked) (ap (λ (v : Waiter). v.marked) (sym is))
  | inr p ↦
      let q : eqb e.0 c ≡ false = test_turned e.0 c ∙ p.0 in
      let rest : lookup (nat_eq c) es ≡ Some w = rw p.0 at at in
      rw q (mark_found c w es (IsDistinct-tail nat_eq e.0 (keys_of es) apart) rest)
]

pub mark_none : (c : ℕ) (es : List (ℕ × Waiter)) → lookup (nat_eq c) es ≡ None → false ≡ list_any (is_marked_caller c) (listed es)
mark_none c [] at = refl
mark_none c (e ∷ es) at = elim (eqb_tells c e.0) [
  | inl p ↦ let bad : Some e.1 ≡ None = rw p.0 at at in absurd (cc)
  | inr p ↦
      let q : eqb e.0 c ≡ false = test_turned e.0 c ∙ p.0 in
      let rest : lookup (nat_eq c) es ≡ None = rw p.0 at at in
      rw q (mark_none c es rest)
]

-- a caller's own mark
kept_by : (c k : ℕ) (es : List (ℕ × Waiter)) → c ≡ k → Misses k es → listed es ≡ map (unmark c) (listed es)
kept_by c k [] is all = refl
kept_by c k (e ∷ es) is all =
    let q : eqb e.0 c ≡ false = test_turned e.0 c ∙ (ap (λ n. eqb n e.0) is ∙ all.0) in
    rw (q, and-true e.1.marked) (ap (λ xs. parked e.0 e.1 ∷ xs) (kept_by c k es is all.1))

pub kept_absent : (c : ℕ) (es : List (ℕ × Waiter)) → lookup (nat_eq c) es ≡ None → listed es ≡ map (unmark c) (listed es)
kept_absent c [] at = refl
kept_absent c (e ∷ es) at = elim (eqb_tells c e.0) [
  | inl p ↦ let bad : Some e.1 ≡ None = rw p.0 at at in absurd (cc)
  | inr p ↦
      let q : eqb e.0 c ≡ false = test_turned e.0 c ∙ p.0 in
      let rest : lookup (nat_eq c) es ≡ None = rw p.0 at at in
      rw (q, and-true e.1.marked) (ap (λ xs. parked e.0 e.1 ∷ xs) (kept_absent c es rest))
]

pub unmarked_by : (c : ℕ) (es : List (ℕ × Waiter)) → IsDistinct nat_eq (keys_of es) → with_mark_at c false (listed es) ≡ map (unmark c) (listed es)
unmarked_by c [] apart = refl
unmarked_by c (e ∷ es) apart = elim (eqb_tells e.0 c) [
  | inl p ↦
      let rest = kept_by c e.0 es (sym p.1) (IsDistinct-head nat_eq e.0 (keys_of es) apart) in
      rw (p.0, and-false e.1.marked) (ap (λ xs. with_mark_of false (parked e.0 e.1) ∷ xs) rest)
  | inr p ↦ rw (p.0, and-true e.1.marked) (ap (λ xs. parked e.0 e.1 ∷ xs) (unmarked_by c es (IsDistinct-tail nat_eq e.0 (keys_of es) apart)))
]

-- the first of an instance
first_missed : (n c k : ℕ) (es : List (ℕ × Waiter)) → c ≡ k → Misses k es → first_at n (listed es) ≡ Some c → ⊥
first_missed n c k [] is all first = cc
first_missed n c k (e ∷ es) is all first = elim (either (is_at n (parked e.0 e.1))) [
  | inl y ↦
      let here : Some e.0 ≡ Some c = rw y at first in
      let same : k ≡ e.0 = cc in
      eqb-false k e.0 all.0 same
  | inr off ↦ let rest : first_at n (listed es) ≡ Some c = rw off at first in first_missed n c k es is all.1 rest
]

first_marked_by : (n c : ℕ) (es : List (ℕ × Waiter)) → IsDistinct nat_eq (keys_of es) → first_at n (listed es) ≡ Some c → with_mark_at c true (listed es) ≡ first_marked n (listed es)
first_marked_by n c [] apart first = refl
first_marked_by n c (e ∷ es) apart first = elim (either (is_at n (parked e.0 e.1))) [
  | inl y ↦
      let here : Some e.0 ≡ Some c = rw y at first in
      let same : e.0 ≡ c = cc in
      let own : eqb e.0 c ≡ true = eq-eqb e.0 c same in
      rw (y, own) refl
  | inr off ↦
      let rest : first_at n (listed es) ≡ Some c = rw off at first in
      let other : eqb e.0 c ≡ false = elim (eqb_tells e.0 c) [
        | inl p ↦ absurd (first_missed n c e.0 es (sym p.1) (IsDistinct-head nat_eq e.0 (keys_of es) apart) rest)
        | inr p ↦ p.0
      ] in
      rw (off, other) (ap (λ xs. parked e.0 e.1 ∷ xs) (first_marked_by n c es (IsDistinct-tail nat_eq e.0 (keys_of es) apart) rest))
]

-- nobody waits at the instance
pub nobody_first : (n : ℕ) (ws : List Parked) → first_at n ws ≡ None → ws ≡ first_marked n ws
nobody_first n [] none = refl
nobody_first n (w ∷ ws) none = elim (either (is_at n w)) [
  | inl y ↦ let bad : Some w.caller ≡ None = rw y at none in absurd (cc)
  | inr off ↦ let rest : first_at n ws ≡ None = rw off at none in rw off (ap (λ xs. w ∷ xs) (nobody_first n ws rest))
]

-- the first of an instance is parked
pub first_there : (n c : ℕ) (ws : List Parked) → first_at n ws ≡ Some c → list_any (is_caller c) ws ≡ true
first_there n c [] first = absurd (cc)
first_there n c (w ∷ ws) first = elim (either (is_at n w)) [
  | inl y ↦
      let here : Some w.caller ≡ Some c = rw y at first in
      let same : w.caller ≡ c = cc in
      let own : eqb w.caller c ≡ true = eq-eqb w.caller c same in
      rw own refl
  | inr off ↦ let rest : first_at n ws ≡ Some c = rw off at first in rw (first_there n c ws rest, or-true (is_caller c w)) refl
]

-- who is marked at an instance, by its tally
pub longest_nobody : (n : ℕ) (ws : List Parked) → None ≡ tally_of n ws → ws ≡ longest_marked n ws
longest_nobody n ws none = nobody_first n ws (off (first_at n ws) none) ∙ ap (λ b. if b then ws else first_marked n ws) (none_marked n ws none)
  where
    off : (o : Option ℕ) → None ≡ option_map (tally_by (count_by (is_marked_of n) ws)) o → o ≡ None
    off None e = refl
    off (Some x) e = absurd (cc)

pub longest_kept : (n : ℕ) (t : Tally) (ws : List Parked) → Some t ≡ tally_of n ws → 0 < t.marked → ws ≡ longest_marked n ws
longest_kept n t ws is some =
    let marked : true ≡ list_any (is_marked_of n) ws = sym (lt-ltb 0 t.marked some) ∙ (ap (nat_lt 0) (marked_is n ws t is) ∙ any_counted (is_marked_of n) ws) in
    ap (λ b. if b then ws else first_marked n ws) marked

pub longest_by : (n : ℕ) (t : Tally) (es : List (ℕ × Waiter)) → IsDistinct nat_eq (keys_of es) → Some t ≡ tally_of n (listed es) → t.marked ≤ 0 → with_mark_at t.first.0 true (listed es) ≡ longest_marked n (listed es)
longest_by n t es apart is few =
    let none : t.marked ≡ 0 = omega arith in
    let unmarked : false ≡ list_any (is_marked_of n) (listed es) = ap (nat_lt 0) (sym none ∙ marked_is n (listed es) t is) ∙ any_counted (is_marked_of n) (listed es) in
    first_marked_by n t.first.0 es apart (first_is n (listed es) t is) ∙ ap (λ b. if b then listed es else first_marked n (listed es)) unmarked
