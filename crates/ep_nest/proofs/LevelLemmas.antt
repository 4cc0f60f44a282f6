-- From level to level along chains.
use Rattle.ep_machine.specs.Lists.{is_among}
use Rattle.ep_nest.proofs.ChainLemmas.{at_most_four, front, joined, last_link}
use Rattle.ep_nest.proofs.ElementLemmas.{Contains-filter, Contains-from_filter, Contains-from_map, Contains-map, among, from_among}
use Rattle.ep_nest.proofs.KeptLemmas.{short_up}
use Rattle.ep_nest.proofs.GatherLemmas.{among_still}
use Rattle.ep_nest.specs.Chains.{IsShort, LeadsBy}
use Rattle.ep_nest.specs.Lengths.{IsLongest, NextLevel}
use Rattle.ep_nest.specs.Links.{along, edges, ends, ends_of, starting_at, starts_at}
use Rattle.ep_nest.specs.declared.link.Link.{Link}
use Rattle.ep_nest.specs.declared.link.Way.{Way}
use Rattle.ep_nest.specs.declared.link.Way.TheVariants.{Down, Up}
use Rattle.std.proofs.Common.{Contains, List, [], arith, eq-eqb, false, get_or, inl, inr, length, refl, subst, suc, sym, true, ℕ, ◌++◌, ◌<◌, ◌∙◌, ◌∷◌, ◌≡◌, ◌≤◌, ◌↔◌, ◌||◌}
use Rattle.std.proofs.lemmas.Bool.{cases_lt, eqb-true, or_cases, or_left, or_right}
use Rattle.std.proofs.lemmas.List.Elements.{Contains-get_or}
use Rattle.ep_facts.proofs.AmongFacts.{among_last, among_push}

-- where the links lead that start at an instance
pub end_of : (way : Way) (k z : ℕ) (ls : List Link) → is_among (ends way (starting_at way k ls)) z ≡ true → Contains (along way ls) (k, z)
end_of way k z ls h =
    let from = Contains-from_map (λ (l : Link). (ends_of way l).1) (starting_at way k ls) z (from_among (ends way (starting_at way k ls)) z h) in
    let there = Contains-from_filter (starts_at way k) ls from.0 from.1 in
    let start : (ends_of way from.0).0 ≡ k = eqb-true (ends_of way from.0).0 k there.1 in
    let pair : ends_of way from.0 ≡ (k, z) = λ j. (start j, from.2 j) in
    subst (λ (e : ℕ × ℕ). Contains (along way ls) e) pair (Contains-map (ends_of way) ls from.0 there.0)

pub end_from : (way : Way) (k z : ℕ) (ls : List Link) → Contains (along way ls) (k, z) → is_among (ends way (starting_at way k ls)) z ≡ true
end_from way k z ls h =
    let from = Contains-from_map (ends_of way) ls (k, z) h in
    let start : (ends_of way from.0).0 ≡ k = λ j. (from.2 j).0 in
    let end : (ends_of way from.0).1 ≡ z = λ j. (from.2 j).1 in
    let here = Contains-filter (starts_at way k) ls from.0 (eq-eqb (ends_of way from.0).0 k start) from.1 in
    among (ends way (starting_at way k ls)) z (subst (λ (x : ℕ). Contains (ends way (starting_at way k ls)) x) end (Contains-map (λ (l : Link). (ends_of way l).1) (starting_at way k ls) from.0 here))

module _ (es : List (ℕ × ℕ)) (x : ℕ) where
  -- exactly these are where chains of n links from x end
  abbrev pub AreEnds : ℕ → List ℕ → Type 0
  AreEnds n ks = (y : ℕ) → (is_among ks y ≡ true) ↔ LeadsBy es n x y

  -- a level more
  pub next_ends : (n : ℕ) (level next : List ℕ) → AreEnds n level → NextLevel es level next → AreEnds (suc n) next
  next_ends n level next are leads z = (
    λ h. let from = (leads z).0 h in joined es n 1 (suc n) x from.0 z (omega arith) ((are from.0).0 from.1) (z, from.2, refl),
    λ chain. let last = last_link es n x z chain in (leads z).1 (last.0, (are last.0).1 last.1, last.2),
  )

  -- an instance at a level: a chain is that long
  pub one_ends : (n : ℕ) (ks : List ℕ) → 0 < length ks → AreEnds n ks → (y : ℕ) × LeadsBy es n x y
  one_ends n ks some are = let k = get_or ks 0 0 in (k, (are k).0 (among ks k (Contains-get_or ks 0 0 some)))

  -- no instance at a level: no chain is that long
  pub ended : (n : ℕ) → AreEnds (suc n) [] → (y : ℕ) × LeadsBy es n x y → IsLongest es x n
  ended n none chain = record {
    chain = chain;
    longest = λ m y p. few m y p;
  }
    where
      few : (m y : ℕ) → LeadsBy es m x y → m ≤ n
      few m y p = elim (cases_lt n m) [
        | inl more ↦ let f = front es (suc n) m x y (omega (arith, more)) p in absurd (let bad : false ≡ true = (none f.0).1 f.1 in cc)
        | inr le ↦ le
      ]

  -- four links: none is longer where all are short
  pub longest_of_all : IsShort es → (y : ℕ) × LeadsBy es 4 x y → IsLongest es x 4
  longest_of_all short chain = record { chain = chain; longest = λ m y p. at_most_four es short m x y p }

-- The instances of a level, one after another.
module _ (way : Way) (ls : List Link) where
  -- what links lead to from the first of these
  abbrev pub AreReachedFrom : List ℕ → List ℕ → Type 0
  AreReachedFrom level next = NextLevel (along way ls) level next

  pub none_reached : AreReachedFrom [] []
  none_reached z = (λ h. absurd (let bad : false ≡ true = h in cc), λ from. absurd (let bad : false ≡ true = from.1 in cc))

  pub reached_more : (level next next' : List ℕ) (k : ℕ) → AreReachedFrom level next → ((z : ℕ) → is_among next' z ≡ (is_among (ends way (starting_at way k ls)) z || is_among next z)) → AreReachedFrom (level ++ k ∷ []) next'
  reached_more level next next' k are exact z = (
    λ h. elim (or_cases (is_among (ends way (starting_at way k ls)) z) (is_among next z) (sym (exact z) ∙ h)) [
      | inl new ↦ (k, among_last level k, end_of way k z ls new)
      | inr old ↦ let from = (are z).0 old in (from.0, among_still level k from.0 from.1, from.2)
    ],
    λ from. exact z ∙ elim (among_push level k from.0 from.1) [
      | inl old ↦ or_right (is_among (ends way (starting_at way k ls)) z) (is_among next z) ((are z).1 (from.0, old, from.2))
      | inr same ↦ or_left (is_among (ends way (starting_at way k ls)) z) (is_among next z) (end_from way k z ls (subst (λ (y : ℕ). Contains (along way ls) (y, z)) same from.2))
    ],
  )

-- the first level
pub first_ends : (way : Way) (ls : List Link) (x : ℕ) (next : List ℕ) → ((z : ℕ) → is_among next z ≡ (is_among (ends way (starting_at way x ls)) z || false)) → AreEnds (along way ls) x 1 next
first_ends way ls x next exact z = (
  λ h. elim (or_cases (is_among (ends way (starting_at way x ls)) z) false (sym (exact z) ∙ h)) [
    | inl new ↦ (z, end_of way x z ls new, refl)
    | inr never ↦ absurd (let bad : false ≡ true = never in cc)
  ],
  λ chain. exact z ∙ or_left (is_among (ends way (starting_at way x ls)) z) false (end_from way x z ls (subst (λ (w : ℕ). Contains (along way ls) (x, w)) chain.2 chain.1)),
)

pub short_along : (way : Way) (ls : List Link) → IsShort (edges ls) → IsShort (along way ls)
short_along Down ls short = short
short_along Up ls short = short_up ls short
