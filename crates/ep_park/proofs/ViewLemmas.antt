-- The list of waiters, read and changed through the map by caller.
use Rattle.std.proofs.Common.{◌≡◌, ℕ, Bool, true, false, List, [], ◌∷◌, ◌++◌, Option, Some, None, refl, ap, ◌∙◌, inl, inr, ◌⊎◌, map, nat_eq, eqb, is_some, if◌then◌else◌}
use Rattle.std.proofs.lemmas.Bool.{eq-eqb, eqb-true}
use Rattle.std.proofs.lemmas.Bool.Decides.{eqb_tells}
use Rattle.std.proofs.lemmas.Cmp.{nat_eq_equiv}
use Rattle.std.proofs.lemmas.Map.{lookup-remove_entry}
use Rattle.std.proofs.lemmas.Map.Keys.{IsDistinct-tail}
use Rattle.std.specs.List.{IsDistinct, find, list_any}
use Rattle.std.specs.Map.{keys_of, lookup, remove_entry}
use Rattle.std.specs.Option.{option_map}
use Rattle.ep_facts.proofs.NatFacts.{test_turned}
use Rattle.ep_machine.specs.State.{Waiter as Parked}
use Rattle.ep_park.specs.Changes.{with_mark_at}
use Rattle.ep_park.specs.Queue.{marked_in}
use Rattle.ep_park.specs.Waiters.{is_caller, listed, parked, without}
use Rattle.ep_park.specs.declared.waiter.Waiter.{Waiter}

pub either : (b : Bool) → (b ≡ true) ⊎ (b ≡ false)
either true = inl refl
either false = inr refl

pub found : (c : ℕ) (es : List (ℕ × Waiter)) → option_map (parked c) (lookup (nat_eq c) es) ≡ find (is_caller c) (listed es)
found c [] = refl
found c (e ∷ es) = elim (eqb_tells c e.0) [
  | inl p ↦ let q : eqb e.0 c ≡ true = test_turned e.0 c ∙ p.0 in rw (p.0, q) (ap (λ k. Some (parked k e.1)) p.1)
  | inr p ↦ let q : eqb e.0 c ≡ false = test_turned e.0 c ∙ p.0 in rw (p.0, q) (found c es)
]

pub present : (c : ℕ) (es : List (ℕ × Waiter)) → is_some (lookup (nat_eq c) es) ≡ list_any (is_caller c) (listed es)
present c [] = refl
present c (e ∷ es) = elim (eqb_tells c e.0) [
  | inl p ↦ let q : eqb e.0 c ≡ true = test_turned e.0 c ∙ p.0 in rw (p.0, q) refl
  | inr p ↦ let q : eqb e.0 c ≡ false = test_turned e.0 c ∙ p.0 in rw (p.0, q) (present c es)
]

pub absent : (c : ℕ) (es : List (ℕ × Waiter)) → list_any (is_caller c) (listed es) ≡ false → lookup (nat_eq c) es ≡ None
absent c es off = by (lookup (nat_eq c) es) (present c es ∙ off)
  where
    by : (o : Option Waiter) → is_some o ≡ false → o ≡ None
    by None e = refl
    by (Some w) e = absurd (cc)

none_without : (c : ℕ) (es : List (ℕ × Waiter)) → lookup (nat_eq c) es ≡ None → listed es ≡ without c (listed es)
none_without c [] none = refl
none_without c (e ∷ es) none = elim (eqb_tells c e.0) [
  | inl p ↦ let bad : Some e.1 ≡ None = rw p.0 at none in absurd (cc)
  | inr p ↦
      let q : eqb e.0 c ≡ false = test_turned e.0 c ∙ p.0 in
      let rest : lookup (nat_eq c) es ≡ None = rw p.0 at none in
      rw q (ap (λ xs. parked e.0 e.1 ∷ xs) (none_without c es rest))
]

pub lookup_removed : (c k : ℕ) (es : List (ℕ × Waiter)) → IsDistinct nat_eq (keys_of es) → lookup (nat_eq k) (remove_entry (nat_eq c) es) ≡ (if nat_eq c k then None else lookup (nat_eq k) es)
lookup_removed c k es apart = lookup-remove_entry nat_eq_equiv (nat_eq c) (λ x y t. ap (λ n. nat_eq n y) (eqb-true c x t)) k es apart

pub lookup_last : (c k : ℕ) (w : Waiter) (es : List (ℕ × Waiter)) → lookup (nat_eq c) es ≡ None → lookup (nat_eq k) (es ++ (c, w) ∷ []) ≡ (if nat_eq c k then Some w else lookup (nat_eq k) es)
lookup_last c k w [] none = rw (test_turned c k) refl
lookup_last c k w (e ∷ es) none = elim (eqb_tells c e.0) [
  | inl p ↦ let bad : Some e.1 ≡ None = rw p.0 at none in absurd (cc)
  | inr p ↦
      let rest : lookup (nat_eq c) es ≡ None = rw p.0 at none in
      elim (eqb_tells k e.0) [
        | inl q ↦ let other : eqb c k ≡ false = ap (eqb c) q.1 ∙ p.0 in rw (q.0, other) refl
        | inr q ↦ rw q.0 (lookup_last c k w es rest)
      ]
]

pub removed : (c : ℕ) (es : List (ℕ × Waiter)) → IsDistinct nat_eq (keys_of es) → listed (remove_entry (nat_eq c) es) ≡ without c (listed es)
removed c [] apart = refl
removed c (e ∷ es) apart = elim (eqb_tells c e.0) [
  | inl p ↦
      let q : eqb e.0 c ≡ true = test_turned e.0 c ∙ p.0 in
      let gone = lookup_removed c c (e ∷ es) apart in
      let yes : eqb c c ≡ true = eq-eqb c c refl in
      let rest : lookup (nat_eq c) es ≡ None = rw (p.0, yes) at gone in
      rw (p.0, q) (none_without c es rest)
  | inr p ↦
      let q : eqb e.0 c ≡ false = test_turned e.0 c ∙ p.0 in
      rw (p.0, q) (ap (λ xs. parked e.0 e.1 ∷ xs) (removed c es (IsDistinct-tail nat_eq e.0 (keys_of es) apart)))
]

pub callers : (es : List (ℕ × Waiter)) → map (λ (w : Parked). w.caller) (listed es) ≡ keys_of es
callers [] = refl
callers (e ∷ es) = ap (λ xs. e.0 ∷ xs) (callers es)

pub marked_listed : (c : ℕ) (b : Bool) (es : List (ℕ × Waiter)) → listed (marked_in c b es) ≡ with_mark_at c b (listed es)
marked_listed c b [] = refl
marked_listed c b (e ∷ es) = elim (eqb_tells c e.0) [
  | inl p ↦ let q : eqb e.0 c ≡ true = test_turned e.0 c ∙ p.0 in rw (p.0, q) refl
  | inr p ↦ let q : eqb e.0 c ≡ false = test_turned e.0 c ∙ p.0 in rw (p.0, q) (ap (λ xs. parked e.0 e.1 ∷ xs) (marked_listed c b es))
]

-- who is found is among them
pub found_any : (p : Parked → Bool) (w : Parked) (ws : List Parked) → find p ws ≡ Some w → list_any p ws ≡ true
found_any p w [] at = absurd (cc)
found_any p w (x ∷ xs) at = elim (either (p x)) [
  | inl y ↦ rw y refl
  | inr n ↦ let rest : find p xs ≡ Some w = rw n at at in rw n (found_any p w xs rest)
]
