-- The machine's search for long chains.
use Rattle.ep_machine.specs.Lists.{is_among, is_empty}
use Rattle.ep_machine.specs.Watches.{ends_of_chains, is_legal}
use Rattle.ep_nest.proofs.ChainLemmas.{joined}
use Rattle.ep_nest.proofs.ElementLemmas.{Contains-filter, Contains-from_filter, Contains-from_map, Contains-head, Contains-map, Contains-nil, among, from_among}
use Rattle.ep_nest.specs.Chains.{IsShort, LeadsBy}
use Rattle.std.proofs.Common.{Bool, Contains, List, [], arith, filter, refl, subst, suc, true, zero, ℕ, ◌+◌, ◌∷◌, ◌≡◌}

module _ (es : List (ℕ × ℕ)) where
  next_end : (k y z : ℕ) → Contains (ends_of_chains k es) y → Contains es (y, z) → Contains (ends_of_chains (suc k) es) z
  next_end k y z h l =
      let ends = ends_of_chains k es in
      let test : ℕ × ℕ → Bool = λ l. is_among ends l.0 in
      Contains-map (λ (l : ℕ × ℕ). l.1) (filter test es) (y, z) (Contains-filter test es (y, z) (among ends y h) l)

  end_of : (k n j y z : ℕ) → k + n ≡ j → Contains (ends_of_chains k es) y → LeadsBy es n y z → Contains (ends_of_chains j es) z
  end_of k zero j y z e h p =
      let same : k ≡ j = omega arith in
      subst (λ (i : ℕ). Contains (ends_of_chains i es) z) same (subst (λ (w : ℕ). Contains (ends_of_chains k es) w) p h)
  end_of k (suc n) j y z e h p = end_of (suc k) n j p.0 z (omega arith) (next_end k y p.0 h p.1) p.2

  from_end : (k y : ℕ) → Contains (ends_of_chains k es) y → (x : ℕ) × LeadsBy es k x y
  from_end zero y h = (y, refl)
  from_end (suc k) y h =
      let ends = ends_of_chains k es in
      let test : ℕ × ℕ → Bool = λ l. is_among ends l.0 in
      let m = Contains-from_map (λ (l : ℕ × ℕ). l.1) (filter test es) y h in
      let f = Contains-from_filter test es m.0 m.1 in
      let before = from_end k m.0.0 (from_among ends m.0.0 f.1) in
      let last : Contains es (m.0.0, y) = subst (λ (w : ℕ). Contains es (m.0.0, w)) m.2 f.0 in
      (before.0, joined es k 1 (suc k) before.0 m.0.0 y (omega arith) before.1 (y, last, refl))

is_empty_without : (xs : List ℕ) → ((x : ℕ) → Contains xs x → ⊥) → is_empty xs ≡ true
is_empty_without [] h = refl
is_empty_without (x ∷ xs) h = absurd (h x (Contains-head x xs))

without_is_empty : (xs : List ℕ) → is_empty xs ≡ true → (x : ℕ) → Contains xs x → ⊥
without_is_empty [] e x h = Contains-nil x h
without_is_empty (y ∷ xs) e x h = absurd (cc)

pub short_from_is_legal : (es : List (ℕ × ℕ)) → is_legal es ≡ true → IsShort es
short_from_is_legal es e x y p =
    let start = Contains-map (λ (l : ℕ × ℕ). l.0) es (x, p.0) p.1 in
    without_is_empty (ends_of_chains 5 es) e y (end_of es 0 5 5 x y (omega arith) start p)

pub is_legal_from_short : (es : List (ℕ × ℕ)) → IsShort es → is_legal es ≡ true
is_legal_from_short es short =
    is_empty_without (ends_of_chains 5 es) (λ y h. let p = from_end es 5 y h in short p.0 y p.1)
