-- A row, once a key joined it and leaves it again.
use Rattle.std.proofs.Common.{◌≡◌, ◌≢◌, ℕ, ◌==◌, Bool, true, false, cond, not, All, Contains, List, [], ◌∷◌, ◌++◌, length, filter, nat_eq, refl, sym, ap, subst, ◌∙◌, arith, if◌then◌else◌}
use Rattle.std.proofs.lemmas.List.{append-nil, get_or_push, length_push}
use Rattle.std.proofs.lemmas.List.Elements.{filter-append}
use Rattle.ep_facts.proofs.NatFacts.{same_test}
use Rattle.ep_rings.proofs.AmongLemmas.{filter_apart}

pub joined_there : (xs ys : List ℕ) (o k : ℕ) → ys ≡ (if nat_eq o o then xs ++ k ∷ [] else xs) → Contains ys k
joined_there xs ys o k e =
    let f : ys ≡ xs ++ k ∷ [] = e ∙ ap (λ (b : Bool). cond b (xs ++ k ∷ []) xs) (same_test o o refl) in
    subst (λ (zs : List ℕ). Contains zs k) (sym f) (length xs, omega (arith, length_push xs k), get_or_push xs k k (length xs) refl)

pub left_again : (xs : List ℕ) (o i k : ℕ) → All (λ x. x ≢ k) xs → filter (λ x. not (x == k)) (if nat_eq o i then xs ++ k ∷ [] else xs) ≡ xs
left_again xs o i k fresh =
    let apart = filter_apart xs k k (λ j l. fresh j k l) in
    let none : filter (λ x. not (x == k)) (k ∷ []) ≡ [] = rw (same_test k k refl) refl in
    elim (nat_eq o i) as (λ b. filter (λ x. not (x == k)) (cond b (xs ++ k ∷ []) xs) ≡ xs) [
      | true ↦ filter-append (λ x. not (x == k)) xs (k ∷ []) ∙ ((λ j. apart j ++ none j) ∙ append-nil xs)
      | false ↦ apart
    ]
