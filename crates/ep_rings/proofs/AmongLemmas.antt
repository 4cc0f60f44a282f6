-- What stands in a list of keys, and the list without a key.
use Rattle.std.proofs.Common.{◌≡◌, ◌≢◌, ℕ, zero, suc, ◌<◌, ◌==◌, ◌||◌, Bool, true, false, not, eqb, List, [], ◌∷◌, length, get_or, filter, refl, sym, ap, ◌∙◌, inl, inr, arith}
use Rattle.std.specs.List.{remove}
use Rattle.std.proofs.lemmas.Bool.{cases_eq}
use Rattle.ep_facts.proofs.NatFacts.{same_test, test_apart}
use Rattle.ep_machine.specs.Lists.{are_distinct, is_among}

-- where a key stands
pub stands_where : (xs : List ℕ) (k d : ℕ) → is_among xs k ≡ true → (j : ℕ) × (j < length xs) × (get_or xs j d ≡ k)
stands_where [] k d h = absurd (cc)
stands_where (x ∷ xs) k d h = elim (cases_eq x k) [
  | inl is ↦ (0, omega arith, is)
  | inr ne ↦
      let rest : is_among xs k ≡ true = grind (arith, h) in
      let w = stands_where xs k d rest in (suc w.0, omega (arith, w.1), w.2)
]

not_standing : (xs : List ℕ) (k d : ℕ) → ((j : ℕ) → j < length xs → get_or xs j d ≢ k) → is_among xs k ≡ false
not_standing [] k d h = refl
not_standing (x ∷ xs) k d h = elim (cases_eq x k) [
  | inl is ↦ absurd (h 0 (omega arith) is)
  | inr ne ↦ let rest = not_standing xs k d (λ j l. h (suc j) (omega arith)) in grind (arith, rest)
]

-- keys that differ at any two indices
pub distinct : (xs : List ℕ) (d : ℕ) → ((i j : ℕ) → i < j → j < length xs → get_or xs i d ≢ get_or xs j d) → are_distinct xs ≡ true
distinct [] d h = refl
distinct (x ∷ xs) d h =
    let out : is_among xs x ≡ false = not_standing xs x d (λ j l same. h 0 (suc j) (omega arith) (omega arith) (sym same)) in
    rw out (distinct xs d (λ i j b l. h (suc i) (suc j) (omega arith) (omega arith)))

-- a list that hasn't the key
pub filter_gone : (xs : List ℕ) (k : ℕ) → is_among xs k ≡ false → filter (λ x. not (eqb x k)) xs ≡ xs
filter_gone [] k h = refl
filter_gone (x ∷ xs) k h = elim (cases_eq x k) [
  | inl is ↦ absurd (let here : eqb k x ≡ true = grind (arith) in let no : true ≡ false = rw here at h in cc)
  | inr ne ↦
      let away : eqb k x ≡ false = grind (arith) in
      let off : eqb x k ≡ false = grind (arith) in
      rw off (ap (λ ys. x ∷ ys) (filter_gone xs k (rw away at h)))
]

-- the same, by index
pub filter_apart : (xs : List ℕ) (k d : ℕ) → ((j : ℕ) → j < length xs → get_or xs j d ≢ k) → filter (λ x. not (eqb x k)) xs ≡ xs
filter_apart [] k d h = refl
filter_apart (x ∷ xs) k d h = let ne : x ≢ k = h 0 (omega arith) in let rest = filter_apart xs k d (λ j l. h (suc j) (omega arith)) in grind (arith, rest)

filter-keep : (x : ℕ) (xs : List ℕ) (k : ℕ) → x ≢ k → filter (λ x. not (eqb x k)) (x ∷ xs) ≡ x ∷ filter (λ x. not (eqb x k)) xs
filter-keep x xs k ne = grind (arith)

-- a list that has it once
pub filter-remove : (xs : List ℕ) (k j d : ℕ) → j < length xs → get_or xs j d ≡ k → ((i : ℕ) → i < length xs → i ≢ j → get_or xs i d ≢ k) → filter (λ x. not (eqb x k)) xs ≡ remove xs j
filter-remove [] k j d l e h = absurd (omega arith)
filter-remove (x ∷ xs) k zero d l e h = let rest = filter_apart xs k d (λ i l. h (suc i) (omega arith) (λ same. omega arith)) in grind (arith, rest)
filter-remove (x ∷ xs) k (suc j) d l e h =
    let ne : x ≢ k = h 0 (omega arith) (λ same. omega arith) in
    filter-keep x xs k ne ∙ ap (λ ys. x ∷ ys) (filter-remove xs k j d (omega arith) e (λ i l ne. h (suc i) (omega arith) (λ same. omega (arith, ne))))

-- without a key: any other stays
pub among_left : (ks : List ℕ) (n k : ℕ) → k ≢ n → is_among (filter (λ x. not (x == n)) ks) k ≡ is_among ks k
among_left [] n k apart = refl
among_left (x ∷ ks) n k apart = elim (cases_eq x n) [
  | inl e ↦ rw (same_test x n e, test_apart k x (λ f. apart (f ∙ e))) (among_left ks n k apart)
  | inr ne ↦ rw (test_apart x n ne) (ap (λ (b : Bool). k == x || b) (among_left ks n k apart))
]

-- and it goes
pub among_gone : (ks : List ℕ) (n : ℕ) → is_among (filter (λ x. not (x == n)) ks) n ≡ false
among_gone [] n = refl
among_gone (x ∷ ks) n = elim (cases_eq x n) [
  | inl e ↦ rw (same_test x n e) (among_gone ks n)
  | inr ne ↦ let back = test_apart n x (λ f. ne (sym f)) in rw (test_apart x n ne, back) (among_gone ks n)
]
