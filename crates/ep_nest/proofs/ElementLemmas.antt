-- What a list has, after a filter or a map.
use Rattle.ep_machine.specs.Lists.{is_among}
use Rattle.std.proofs.Common.{Bool, Contains, List, [], ap, arith, false, filter, get_or, inl, inr, length, map, refl, subst, suc, sym, true, zero, ℕ, ◌<◌, ◌∙◌, ◌∷◌, ◌≡◌, ◌⊎◌, eqb, eq-eqb}
use Rattle.std.proofs.lemmas.Bool.{cases_Bool, eqb-true, or_cases}

module _ {X : Type 0} where
  pub Contains-head : (x : X) (xs : List X) → Contains (x ∷ xs) x
  Contains-head x xs = (0, omega arith, refl)

  pub Contains-cons : (x : X) (xs : List X) (y : X) → Contains xs y → Contains (x ∷ xs) y
  Contains-cons x xs y h = (suc h.0, omega (arith, h.1), h.2)

  at_cons : (x : X) (xs : List X) (y : X) (k : ℕ) → k < length (x ∷ xs) → get_or (x ∷ xs) k y ≡ y → (x ≡ y) ⊎ Contains xs y
  at_cons x xs y zero l e = inl e
  at_cons x xs y (suc k) l e = inr (k, omega arith, e)

  pub Contains-cons_cases : (x : X) (xs : List X) (y : X) → Contains (x ∷ xs) y → (x ≡ y) ⊎ Contains xs y
  Contains-cons_cases x xs y h = at_cons x xs y h.0 h.1 h.2

  pub Contains-nil : (y : X) → Contains [] y → ⊥
  Contains-nil y h = omega (arith, h.1)

  pub Contains-filter : (p : X → Bool) (xs : List X) (y : X) → p y ≡ true → Contains xs y → Contains (filter p xs) y
  Contains-filter p [] y t h = absurd (Contains-nil y h)
  Contains-filter p (x ∷ xs) y t h = elim (Contains-cons_cases x xs y h) [
    | inl e ↦ let is : p x ≡ true = ap p e ∙ t in rw is (subst (λ (z : X). Contains (x ∷ filter p xs) z) e (Contains-head x (filter p xs)))
    | inr later ↦ elim (cases_Bool (p x)) [
      | inl is ↦ rw is (Contains-cons x (filter p xs) y (Contains-filter p xs y t later))
      | inr otherwise ↦ rw otherwise (Contains-filter p xs y t later)
    ]
  ]

  pub Contains-from_filter : (p : X → Bool) (xs : List X) (y : X) → Contains (filter p xs) y → Contains xs y × (p y ≡ true)
  Contains-from_filter p [] y h = absurd (Contains-nil y h)
  Contains-from_filter p (x ∷ xs) y h = elim (cases_Bool (p x)) [
    | inl is ↦ elim (Contains-cons_cases x (filter p xs) y (rw is at h)) [
      | inl e ↦ (subst (λ (z : X). Contains (x ∷ xs) z) e (Contains-head x xs), sym (ap p e) ∙ is)
      | inr later ↦ let rest = Contains-from_filter p xs y later in (Contains-cons x xs y rest.0, rest.1)
    ]
    | inr otherwise ↦ let rest = Contains-from_filter p xs y (rw otherwise at h) in (Contains-cons x xs y rest.0, rest.1)
  ]

  pub Contains-map : {Y : Type 0} (f : X → Y) (xs : List X) (x : X) → Contains xs x → Contains (map f xs) (f x)
  Contains-map f [] x h = absurd (Contains-nil x h)
  Contains-map {Y} f (w ∷ xs) x h = elim (Contains-cons_cases w xs x h) [
    | inl e ↦ (0, omega arith, ap f e)
    | inr later ↦ let rest = Contains-map f xs x later in (suc rest.0, omega (arith, rest.1), rest.2)
  ]

  map_at : {Y : Type 0} (f : X → Y) (xs : List X) (y : Y) (k : ℕ) → k < length (map f xs) → get_or (map f xs) k y ≡ y → (x : X) × Contains xs x × (f x ≡ y)
  map_at f [] y k l e = absurd (omega arith)
  map_at f (x ∷ xs) y zero l e = (x, Contains-head x xs, e)
  map_at f (x ∷ xs) y (suc k) l e = let rest = map_at f xs y k (omega arith) e in (rest.0, Contains-cons x xs rest.0 rest.1, rest.2)

  pub Contains-from_map : {Y : Type 0} (f : X → Y) (xs : List X) (y : Y) → Contains (map f xs) y → (x : X) × Contains xs x × (f x ≡ y)
  Contains-from_map f xs y h = map_at f xs y h.0 h.1 h.2

pub among : (ks : List ℕ) (k : ℕ) → Contains ks k → is_among ks k ≡ true
among [] k h = absurd (Contains-nil k h)
among (x ∷ ks) k h = elim (cases_Bool (eqb k x)) [
  | inl is ↦ rw is refl
  | inr otherwise ↦ elim (Contains-cons_cases x ks k h) [
    | inl e ↦ absurd (let yes : eqb k x ≡ true = eq-eqb k x (sym e) in let bad : true ≡ false = sym yes ∙ otherwise in cc)
    | inr later ↦ rw (otherwise, among ks k later) refl
  ]
]

pub from_among : (ks : List ℕ) (k : ℕ) → is_among ks k ≡ true → Contains ks k
from_among [] k h = absurd (cc)
from_among (x ∷ ks) k h = elim (or_cases (eqb k x) (is_among ks k) h) [
  | inl is ↦ subst (λ (z : ℕ). Contains (x ∷ ks) z) (sym (eqb-true k x is)) (Contains-head x ks)
  | inr later ↦ Contains-cons x ks k (from_among ks k later)
]
