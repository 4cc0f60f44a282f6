-- Numbers that stand in a list.
use Rattle.std.proofs.Common.{◌≡◌, ◌≢◌, ◌++◌, ◌==◌, ◌∷◌, ◌⊎◌, ◌||◌, ◌∙◌, ℕ, Bool, List, [], true, false, ap, inl, inr, map, refl, sym}
use Rattle.std.specs.List.{AllByRecursion}
use Rattle.std.proofs.Math.Bool.{or-false}
use Rattle.std.proofs.lemmas.Bool.{or_parts}
use Rattle.ep_machine.specs.Lists.{is_among}
use Rattle.ep_facts.proofs.BoolFacts.{or_assoc, or_cases, or_left, or_right}
use Rattle.ep_facts.proofs.NatFacts.{from_test, same_nat, test_apart}

pub among_append : (xs ys : List ℕ) (k : ℕ) → is_among (xs ++ ys) k ≡ (is_among xs k || is_among ys k)
among_append [] ys k = refl
among_append (x ∷ xs) ys k = ap (λ (b : Bool). k == x || b) (among_append xs ys k) ∙ or_assoc (k == x) (is_among xs k) (is_among ys k)

pub among_end : (xs : List ℕ) (n k : ℕ) → is_among (xs ++ n ∷ []) k ≡ (is_among xs k || k == n)
among_end xs n k = among_append xs (n ∷ []) k ∙ ap (λ (b : Bool). is_among xs k || b) (or-false (k == n))

pub among_last : (xs : List ℕ) (k : ℕ) → is_among (xs ++ k ∷ []) k ≡ true
among_last xs k = among_end xs k k ∙ or_right (is_among xs k) (k == k) (same_nat k)

pub among_push : (xs : List ℕ) (n k : ℕ) → is_among (xs ++ n ∷ []) k ≡ true → (is_among xs k ≡ true) ⊎ (k ≡ n)
among_push xs n k h = elim (or_cases (is_among xs k) (k == n) (sym (among_end xs n k) ∙ h)) [ inl there ↦ inl there | inr is ↦ inr (from_test k n is) ]

pub among_push_other : (xs : List ℕ) (n k : ℕ) → k ≢ n → is_among (xs ++ n ∷ []) k ≡ is_among xs k
among_push_other xs n k other = among_end xs n k ∙ (ap (λ (b : Bool). is_among xs k || b) (test_apart k n other) ∙ or-false (is_among xs k))

pub map_same : (f g : ℕ → ℕ) (xs : List ℕ) → ((k : ℕ) → is_among xs k ≡ true → f k ≡ g k) → map f xs ≡ map g xs
map_same f g [] h = refl
map_same f g (x ∷ xs) h =
    let first = h x (or_left (x == x) (is_among xs x) (same_nat x)) in
    let rest = map_same f g xs (λ k t. h k (or_right (k == x) (is_among xs k) t)) in
    λ i. first i ∷ rest i

pub apart_from_all : (k : ℕ) (xs : List ℕ) → is_among xs k ≡ false → AllByRecursion (λ y. k == y ≡ false) xs
apart_from_all k [] h = tt
apart_from_all k (x ∷ xs) h = let both = or_parts (k == x) (is_among xs k) h in (both.0, apart_from_all k xs both.1)

pub none_apart : (k : ℕ) (xs : List ℕ) → AllByRecursion (λ y. k == y ≡ false) xs → is_among xs k ≡ false
none_apart k [] h = refl
none_apart k (x ∷ xs) h = ap (λ (b : Bool). b || is_among xs k) h.0 ∙ none_apart k xs h.1
