-- When a graph stays legal with one more link.
use Rattle.ep_nest.proofs.ChainLemmas.{at_most_four, first_use, included, joined}
use Rattle.ep_nest.proofs.ElementLemmas.{Contains-cons, Contains-head}
use Rattle.ep_nest.specs.Chains.{IsShort, LeadsBy}
use Rattle.std.proofs.Common.{Contains, List, arith, inl, inr, refl, subst, suc, sym, zero, ℕ, ◌+◌, ◌<◌, ◌∷◌, ◌≢◌, ◌≤◌}

-- the numbers of links that may stand above the one and below the other
pub record Fits (es : List (ℕ × ℕ)) (outer inner above below : ℕ) : Type 0 where
  pub apart : outer ≢ inner
  pub one_way : Contains es (inner, outer) → ⊥
  pub shallow : above + below < 4

module _ (es : List (ℕ × ℕ)) (outer inner above below : ℕ) where
  -- an old chain from the inner instance to the outer one is refused
  no_way_back : Fits es outer inner above below → ((n x : ℕ) → LeadsBy es n x outer → n ≤ above) → ((n y : ℕ) → LeadsBy es n inner y → n ≤ below) → (n : ℕ) → LeadsBy es n inner outer → ⊥
  no_way_back f up down zero p = f.apart (sym p)
  no_way_back f up down (suc zero) p = f.one_way (subst (λ (w : ℕ). Contains es (inner, w)) p.2 p.1)
  no_way_back f up down (suc (suc n)) p =
      let s = f.shallow in
      omega (arith, up (suc (suc n)) inner p, down (suc (suc n)) outer p)

  pub stays_short : IsShort es → Fits es outer inner above below → ((n x : ℕ) → LeadsBy es n x outer → n ≤ above) → ((n y : ℕ) → LeadsBy es n inner y → n ≤ below) → IsShort ((outer, inner) ∷ es)
  stays_short short f up down x y p = elim (first_use es outer inner 5 x y p) [
    | inl old ↦ short x y old
    | inr u ↦ elim (first_use es outer inner u.1 inner y u.3) [
      | inl rest ↦
          let s = f.shallow in
          omega (arith, up u.0 x u.2, down u.1 y rest, u.4)
      | inr v ↦ no_way_back f up down v.0 v.2
    ]
  ]

  new_link : Contains ((outer, inner) ∷ es) (outer, inner)
  new_link = Contains-head (outer, inner) es

  older : (n x y : ℕ) → LeadsBy es n x y → LeadsBy ((outer, inner) ∷ es) n x y
  older = included es ((outer, inner) ∷ es) (λ a b h. Contains-cons (outer, inner) es (a, b) h)

  -- chains above and below, joined by the new link
  through : (a b x y : ℕ) → LeadsBy es a x outer → LeadsBy es b inner y → LeadsBy ((outer, inner) ∷ es) (a + suc b) x y
  through a b x y p q =
      joined ((outer, inner) ∷ es) a (suc b) (a + suc b) x outer y refl (older a x outer p) (inner, new_link, older b inner y q)

  pub fits_from_short : IsShort ((outer, inner) ∷ es) → (x y : ℕ) → LeadsBy es above x outer → LeadsBy es below inner y → Fits es outer inner above below
  fits_from_short short x y p q = record {
    apart = λ same.
        let here : Contains ((outer, inner) ∷ es) (outer, outer) = subst (λ (w : ℕ). Contains ((outer, inner) ∷ es) (outer, w)) (sym same) new_link in
        short outer outer (outer, here, (outer, here, (outer, here, (outer, here, (outer, here, refl)))));
    one_way = λ back.
        let there = new_link in
        let home = Contains-cons (outer, inner) es (inner, outer) back in
        short outer inner (inner, there, (outer, home, (inner, there, (outer, home, (inner, there, refl)))));
    shallow =
        let long = at_most_four ((outer, inner) ∷ es) short (above + suc below) x y (through above below x y p q) in
        omega (arith, long);
  }
