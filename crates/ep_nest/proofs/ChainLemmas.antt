-- Chains, joined and cut.
use Rattle.ep_nest.proofs.ElementLemmas.{Contains-cons_cases}
use Rattle.ep_nest.specs.Chains.{IsLegalGraph, IsShort, LeadsBy}
use Rattle.std.proofs.Common.{Contains, List, ap, arith, inl, inr, refl, subst, suc, sym, zero, ℕ, ◌+◌, ◌∷◌, ◌≡◌, ◌≤◌, ◌⊎◌}
use Rattle.std.proofs.lemmas.Bool.{cases_lt}

module _ (es : List (ℕ × ℕ)) where
  pub joined : (m n k x y z : ℕ) → m + n ≡ k → LeadsBy es m x y → LeadsBy es n y z → LeadsBy es k x z
  joined zero n k x y z e p q =
      let same : n ≡ k = omega arith in
      subst (λ (j : ℕ). LeadsBy es j x z) same (subst (λ (w : ℕ). LeadsBy es n w z) (sym p) q)
  joined (suc m) n k x y z e p q =
      let same : suc (m + n) ≡ k = omega arith in
      subst (λ (j : ℕ). LeadsBy es j x z) same (p.0, p.1, joined m n (m + n) p.0 y z refl p.2 q)

  -- the last link of a chain
  pub last_link : (n x y : ℕ) → LeadsBy es (suc n) x y → (z : ℕ) × LeadsBy es n x z × Contains es (z, y)
  last_link zero x y p = (x, refl, subst (λ (w : ℕ). Contains es (x, w)) p.2 p.1)
  last_link (suc n) x y p = let rest = last_link n p.0 y p.2 in (rest.0, (p.0, p.1, rest.1), rest.2)

  -- the first links of a chain
  pub front : (m n x y : ℕ) → m ≤ n → LeadsBy es n x y → (z : ℕ) × LeadsBy es m x z
  front zero n x y l p = (x, refl)
  front (suc m) zero x y l p = absurd (omega arith)
  front (suc m) (suc n) x y l p = let rest = front m n p.0 y (omega arith) p.2 in (rest.0, (p.0, p.1, rest.1))

  pub at_most_four : IsShort es → (n x y : ℕ) → LeadsBy es n x y → n ≤ 4
  at_most_four short n x y p = elim (cases_lt 4 n) [
    | inl l ↦ let f = front 5 n x y (omega arith) p in absurd (short x f.0 f.1)
    | inr g ↦ g
  ]

-- chains that go as the links of another list go
module _ (es fs : List (ℕ × ℕ)) where
  pub included : ((a b : ℕ) → Contains es (a, b) → Contains fs (a, b)) → (n x y : ℕ) → LeadsBy es n x y → LeadsBy fs n x y
  included h zero x y p = p
  included h (suc n) x y p = (p.0, h x p.0 p.1, included h n p.0 y p.2)

  pub turned : ((a b : ℕ) → Contains es (a, b) → Contains fs (b, a)) → (n x y : ℕ) → LeadsBy es n x y → LeadsBy fs n y x
  turned h zero x y p = sym p
  turned h (suc n) x y p =
      joined fs n 1 (suc n) y p.0 x (omega arith) (turned h n p.0 y p.2) (x, h x p.0 p.1, refl)

pub short_part : (es fs : List (ℕ × ℕ)) → ((a b : ℕ) → Contains es (a, b) → Contains fs (a, b)) → IsShort fs → IsShort es
short_part es fs h short x y p = short x y (included es fs h 5 x y p)

-- a chain round a loop, any number of times
round_loop : (es : List (ℕ × ℕ)) (n x : ℕ) → LeadsBy es (suc n) x x → LeadsBy es (suc n + (suc n + (suc n + (suc n + suc n)))) x x
round_loop es n x p =
    let k = suc n in
    let two = joined es k k (k + k) x x x refl p p in
    let three = joined es k (k + k) (k + (k + k)) x x x refl p two in
    let four = joined es k (k + (k + k)) (k + (k + (k + k))) x x x refl p three in
    joined es k (k + (k + (k + k))) (k + (k + (k + (k + k)))) x x x refl p four

-- to have no chain of five links is to have no loop and no longer chain
pub legal_from_short : (es : List (ℕ × ℕ)) → IsShort es → IsLegalGraph es
legal_from_short es short = record {
  no_loop = λ x p. let long = at_most_four es short _ x x (round_loop es p.0 x p.1) in omega (arith, long);
  short = λ n x y p. omega (arith, at_most_four es short n x y p);
}

pub short_from_legal : (es : List (ℕ × ℕ)) → IsLegalGraph es → IsShort es
short_from_legal es legal x y p = omega (arith, legal.short 5 x y p)

-- a chain through a new link: without it, or up to its first use
module _ (es : List (ℕ × ℕ)) (outer inner : ℕ) where
  pub first_use : (n x y : ℕ) → LeadsBy ((outer, inner) ∷ es) n x y → LeadsBy es n x y ⊎ ((a : ℕ) × (b : ℕ) × LeadsBy es a x outer × LeadsBy ((outer, inner) ∷ es) b inner y × (a + 1 + b ≡ n))
  first_use zero x y p = inl p
  first_use (suc n) x y p = elim (Contains-cons_cases (outer, inner) es (x, p.0) p.1) [
    | inl here ↦
        let at_x : outer ≡ x = ap (λ (e : ℕ × ℕ). e.0) here in
        let at_next : inner ≡ p.0 = ap (λ (e : ℕ × ℕ). e.1) here in
        inr (0, n, sym at_x, subst (λ (w : ℕ). LeadsBy ((outer, inner) ∷ es) n w y) (sym at_next) p.2, omega arith)
    | inr old ↦ elim (first_use n p.0 y p.2) [
      | inl rest ↦ inl (p.0, old, rest)
      | inr use' ↦ inr (suc use'.0, use'.1, (p.0, old, use'.2), use'.3, omega (arith, use'.4))
    ]
  ]
