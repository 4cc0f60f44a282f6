-- A walk down that looks at one instance after another.
use Rattle.ep_base.specs.declared.ids.DescId.{DescId}
use Rattle.ep_machine.specs.Lists.{is_among}
use Rattle.ep_nest.proofs.ChainLemmas.{joined}
use Rattle.ep_nest.proofs.LevelLemmas.{end_from, end_of}
use Rattle.ep_nest.proofs.NoteLemmas.{among_end, or_turned}
use Rattle.ep_nest.specs.Chains.{IsAbove, LeadsBy}
use Rattle.ep_nest.specs.Descent.{AreBeneath}
use Rattle.ep_nest.specs.Links.{edges, ends, keys, starting_at}
use Rattle.ep_nest.specs.declared.link.Link.{Link}
use Rattle.ep_nest.specs.declared.link.Way.TheVariants.{Down}
use Rattle.std.proofs.Common.{Bool, Contains, List, [], ap, arith, eq-eqb, false, get_or, inl, inr, length, refl, subst, suc, sym, take, take_all, true, zero, ℕ, ◌+◌, ◌++◌, ◌<◌, ◌≤◌, ◌∙◌, ◌∷◌, ◌≡◌, ◌⊎◌, ◌==◌, ◌||◌}
use Rattle.std.proofs.lemmas.Bool.{eqb-true, or_cases, or_left, or_right}
use Rattle.std.proofs.lemmas.List.{get_or-map, length-map, map-append}

-- what was seen: the instance above, and the first of those that are reached
abbrev pub seen_to : ℕ → List ℕ → ℕ → ℕ → Bool
seen_to to ks i x = (x == to) || is_among (take i ks) x

take_suc : (ks more : List ℕ) (i d : ℕ) → i < length ks → take (suc i) (ks ++ more) ≡ take i ks ++ get_or ks i d ∷ []
take_suc [] more i d lt = absurd (omega arith)
take_suc (k ∷ ks) more zero d lt = refl
take_suc (k ∷ ks) more (suc i) d lt = ap (λ (xs : List ℕ). k ∷ xs) (take_suc ks more i d (omega arith))

take_more : (ks more : List ℕ) (i d : ℕ) → i < length ks → take (i + 1) (ks ++ more) ≡ take i ks ++ get_or ks i d ∷ []
take_more ks more i d lt = let e : i + 1 ≡ suc i = omega arith in ap (λ (n : ℕ). take n (ks ++ more)) e ∙ take_suc ks more i d lt

pub sees_more : (to : ℕ) (ks more : List ℕ) (i d : ℕ) → i < length ks → (x : ℕ) → seen_to to (ks ++ more) (i + 1) x ≡ ((x == get_or ks i d) || seen_to to ks i x)
sees_more to ks more i d lt x =
    ap (λ (xs : List ℕ). (x == to) || is_among xs x) (take_more ks more i d lt)
    ∙ (ap (λ (b : Bool). (x == to) || b) (among_end (take i ks) (get_or ks i d) x) ∙ or_turned (x == to) (x == get_or ks i d) (is_among (take i ks) x))

-- once all that is reached was seen
pub all_seen : (to : ℕ) (ks : List ℕ) (i : ℕ) → length ks ≤ i → (x : ℕ) → (x ≡ to) ⊎ (is_among ks x ≡ true) → seen_to to ks i x ≡ true
all_seen to ks i le x why =
    ap (λ (xs : List ℕ). (x == to) || is_among xs x) (take_all i ks le)
    ∙ elim why [
      | inl e ↦ or_left (x == to) (is_among ks x) (eq-eqb x to e)
      | inr there ↦ or_right (x == to) (is_among ks x) there
    ]

module _ (ls : List Link) (from : ℕ) where
  -- these are reached, once the links from what was seen were followed
  pub record Descends (seen : ℕ → Bool) (ks : List ℕ) : Type 0 where
    pub sound : (x : ℕ) → is_among ks x ≡ true → IsAbove (edges ls) from x
    pub complete : (y x : ℕ) → seen y ≡ true → Contains (edges ls) (y, x) → is_among ks x ≡ true

  module _ (seen now : ℕ → Bool) (ks more : List ℕ) (k : ℕ) (before : Descends seen ks) (why : (k ≡ from) ⊎ (is_among ks k ≡ true))
      (exact : (x : ℕ) → is_among more x ≡ (is_among (ends Down (starting_at Down k ls)) x || is_among ks x))
      (sees : (x : ℕ) → now x ≡ ((x == k) || seen x)) where
    step_down : (x : ℕ) → Contains (edges ls) (k, x) → IsAbove (edges ls) from x
    step_down x link = elim why [
      | inl e ↦ (0, (x, subst (λ (j : ℕ). Contains (edges ls) (j, x)) e link, refl))
      | inr m ↦ let up = before.sound k m in (suc up.0, joined (edges ls) (suc up.0) 1 (suc (suc up.0)) from k x (omega arith) up.1 (x, link, refl))
    ]

    -- the links from one instance more were followed
    pub goes_down : Descends now more
    goes_down = record {
      sound = λ x h. elim (or_cases (is_among (ends Down (starting_at Down k ls)) x) (is_among ks x) (sym (exact x) ∙ h)) [
        | inl new ↦ step_down x (end_of Down k x ls new)
        | inr old ↦ before.sound x old
      ];
      complete = λ y x h link. elim (or_cases (y == k) (seen y) (sym (sees y) ∙ h)) [
        | inl t ↦ exact x ∙ or_left (is_among (ends Down (starting_at Down k ls)) x) (is_among ks x) (end_from Down k x ls (subst (λ (j : ℕ). Contains (edges ls) (j, x)) (eqb-true y k t) link))
        | inr s ↦ exact x ∙ or_right (is_among (ends Down (starting_at Down k ls)) x) (is_among ks x) (before.complete y x s link)
      ];
    }

  -- the links from the instance above were followed
  pub starts_down : (ks : List ℕ) → ((x : ℕ) → is_among ks x ≡ (is_among (ends Down (starting_at Down from ls)) x || false)) → Descends (seen_to from ks 0) ks
  starts_down ks exact =
      goes_down (λ k. false) (seen_to from ks 0) [] ks from (record { sound = λ x h. absurd (let bad : false ≡ true = h in cc); complete = λ y x h link. absurd (let bad : false ≡ true = h in cc) }) (inl refl) exact
      (λ x. ap (λ (xs : List ℕ). (x == from) || is_among xs x) (take_none ks)) where
        take_none : (ks : List ℕ) → take 0 ks ≡ []
        take_none [] = refl
        take_none (k ∷ ks) = refl

  -- so were those from one that is reached
  pub goes_further :
      (ds end : List DescId) (i : ℕ) (d : DescId)
      → i < length ds
      → ((x : ℕ) → is_among (keys end) x ≡ (is_among (ends Down (starting_at Down (get_or ds i d).0 ls)) x || is_among (keys ds) x))
      → (more : List DescId) × (end ≡ ds ++ more)
      → is_among (keys ds) (get_or ds i d).0 ≡ true
      → Descends (seen_to from (keys ds) i) (keys ds)
      → Descends (seen_to from (keys end) (i + 1)) (keys end)
  goes_further ds end i d lt exact grown there before =
      let ks = keys ds in
      let within : i < length ks = omega (arith, length-map ds (λ (d : DescId). d.0), lt) in
      let same : get_or ks i d.0 ≡ (get_or ds i d).0 = get_or-map (λ (d : DescId). d.0) ds i d d.0 lt in
      let longer : keys end ≡ ks ++ keys grown.0 = ap (λ (ds : List DescId). keys ds) grown.1 ∙ map-append (λ (d : DescId). d.0) ds grown.0 in
      goes_down (seen_to from ks i) (seen_to from (keys end) (i + 1)) ks (keys end) (get_or ds i d).0 before (inr there) exact
      (λ x. ap (λ (xs : List ℕ). seen_to from xs (i + 1) x) longer ∙ (sees_more from ks (keys grown.0) i d.0 within x ∙ ap (λ (k : ℕ). (x == k) || seen_to from ks i x) same))

  module _ (seen : ℕ → Bool) (ks : List ℕ) (h : Descends seen ks) (all : (x : ℕ) → (x ≡ from) ⊎ (is_among ks x ≡ true) → seen x ≡ true) where
    leads : (n y x : ℕ) → seen y ≡ true → LeadsBy (edges ls) (suc n) y x → is_among ks x ≡ true
    leads zero y x s c = ap (is_among ks) (sym c.2) ∙ h.complete y c.0 s c.1
    leads (suc n) y x s c = leads n c.0 x (all c.0 (inr (h.complete y c.0 s c.1))) c.2

    closed : AreBeneath ls from ks
    closed x = (h.sound x, λ up. leads up.0 from x (all from (inl refl)) up.1)

  -- once those from all that are reached were
  pub descended : (ks : List ℕ) (i : ℕ) → length ks ≤ i → Descends (seen_to from ks i) ks → AreBeneath ls from ks
  descended ks i le h = closed (seen_to from ks i) ks h (all_seen from ks i le)
