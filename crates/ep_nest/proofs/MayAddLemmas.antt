-- What the longest chains say of a link that may be added.
use Rattle.ep_machine.specs.Watches.{is_legal}
use Rattle.ep_nest.proofs.AdditionLemmas.{Fits, fits_from_short, stays_short}
use Rattle.ep_nest.proofs.ChainLemmas.{legal_from_short, short_from_legal}
use Rattle.ep_nest.proofs.ElementLemmas.{Contains-cons, Contains-cons_cases, Contains-head, Contains-nil}
use Rattle.ep_nest.proofs.KeptLemmas.{chain_down, chain_up}
use Rattle.ep_nest.proofs.LegalityLemmas.{is_legal_from_short, short_from_is_legal}
use Rattle.ep_nest.specs.Chains.{IsLegalGraph}
use Rattle.ep_nest.specs.Depths.{IsShallow, IsTooDeep}
use Rattle.ep_nest.specs.Links.{edges, ends_of, is_between, starting_at}
use Rattle.ep_nest.specs.declared.link.Link.{Link}
use Rattle.ep_nest.specs.declared.link.Way.TheVariants.{Down}
use Rattle.std.proofs.Common.{Bool, Contains, List, [], ap, arith, eq-eqb, eqb, false, inl, inr, refl, subst, sym, true, ℕ, ◌==◌, ◌∙◌, ◌∷◌, ◌≡◌, ◌≢◌, ◌||◌}
use Rattle.std.proofs.lemmas.Bool.{and_from, and_parts, cases_Bool, eqb-true, or_cases}
use Rattle.std.specs.List.{list_any}

-- the test of a link against the link itself
pub between : (ls : List Link) (a b : ℕ) → list_any (is_between a b) ls ≡ true → Contains (edges ls) (a, b)
between [] a b h = absurd (cc)
between (l ∷ ls) a b h = elim (or_cases (is_between a b l) (list_any (is_between a b) ls) h) [
  | inl here ↦
      let parts = and_parts (eqb l.outer.0 a) (eqb l.inner.0 b) here in
      let ea = eqb-true l.outer.0 a parts.0 in
      let eb = eqb-true l.inner.0 b parts.1 in
      let pair : ends_of Down l ≡ (a, b) = λ j. (ea j, eb j) in
      subst (λ (e : ℕ × ℕ). Contains (edges (l ∷ ls)) e) pair (Contains-head (ends_of Down l) (edges ls))
  | inr later ↦ Contains-cons (ends_of Down l) (edges ls) (a, b) (between ls a b later)
]

pub not_between : (ls : List Link) (a b : ℕ) → list_any (is_between a b) ls ≡ false → Contains (edges ls) (a, b) → ⊥
not_between [] a b h c = Contains-nil (a, b) c
not_between (l ∷ ls) a b h c = elim (cases_Bool (is_between a b l)) [
  | inl is ↦ let bad : true ≡ false = rw is at h in cc
  | inr otherwise ↦ elim (Contains-cons_cases (ends_of Down l) (edges ls) (a, b) c) [
    | inl here ↦
        let ea : l.outer.0 ≡ a = λ j. (here j).0 in
        let eb : l.inner.0 ≡ b = λ j. (here j).1 in
        let is : is_between a b l ≡ true = and_from (eqb l.outer.0 a) (eqb l.inner.0 b) (eq-eqb l.outer.0 a ea) (eq-eqb l.inner.0 b eb) in
        let bad : true ≡ false = sym is ∙ otherwise in
        cc
    | inr later ↦ not_between ls a b (rw otherwise at h) later
  ]
]

-- the same among the links of the one that watches
pub between_starting : (ls : List Link) (a b : ℕ) → list_any (λ l. l.inner.0 == b) (starting_at Down a ls) ≡ list_any (is_between a b) ls
between_starting [] a b = refl
between_starting (l ∷ ls) a b =
    let rest = between_starting ls a b in
    elim (cases_Bool (l.outer.0 == a)) [
      | inl is ↦ rw is (ap (λ (t : Bool). (l.inner.0 == b) || t) rest)
      | inr off ↦ rw off rest
    ]

module _ (ls : List Link) (legal : is_legal (edges ls) ≡ true) (outer inner : ℕ) where
  -- few links above the one and below the other, and none back
  pub legal_if_shallow : IsShallow ls outer inner → outer ≢ inner → (Contains (edges ls) (inner, outer) → ⊥) → is_legal ((outer, inner) ∷ edges ls) ≡ true
  legal_if_shallow few apart one_way =
      is_legal_from_short ((outer, inner) ∷ edges ls) (stays_short (edges ls) outer inner few.above few.below (short_from_is_legal (edges ls) legal)
      (record { apart = apart; one_way = one_way; shallow = few.fits })
      (λ n x p. few.up n x (chain_up ls n x outer p)) few.down)

  -- what has to hold where the link may be added
  pub fits_if_legal : is_legal ((outer, inner) ∷ edges ls) ≡ true → Fits (edges ls) outer inner 0 0
  fits_if_legal more = fits_from_short (edges ls) outer inner 0 0 (short_from_is_legal ((outer, inner) ∷ edges ls) more) outer inner refl refl

  pub too_deep_refused : IsTooDeep ls outer inner → is_legal ((outer, inner) ∷ edges ls) ≡ true → ⊥
  too_deep_refused deep more =
      let up = deep.up.chain in
      let down = deep.down.chain in
      let fits = fits_from_short (edges ls) outer inner deep.above deep.below (short_from_is_legal ((outer, inner) ∷ edges ls) more) up.0 down.0 (chain_down ls deep.above outer up.0 up.1) down.1 in
      omega (arith, fits.shallow, deep.many)

pub words_from_machine : (es : List (ℕ × ℕ)) → is_legal es ≡ true → IsLegalGraph es
words_from_machine es h = legal_from_short es (short_from_is_legal es h)

pub machine_from_words : (es : List (ℕ × ℕ)) → IsLegalGraph es → is_legal es ≡ true
machine_from_words es h = is_legal_from_short es (short_from_legal es h)
