-- A walk up: it looks at one after another of those that it reached.
use Rattle.std.proofs.Common.{◌≡◌, ◌∙◌, ◌<◌, ◌≤◌, ◌+◌, ◌++◌, ◌||◌, ◌==◌, ◌⊎◌, ℕ, zero, suc, Bool, true, false, Contains, List, [], ◌∷◌, Some, ap, append_assoc, arith, cond, filter, get_or, inl, inr, length, refl, slice_get, subst, sym, take, take_all}
use Rattle.std.proofs.Math.Bool.{or-false}
use Rattle.std.proofs.lemmas.List.{take-append-le, take_more}
use Rattle.std.proofs.lemmas.List.Elements.{Contains-get_or}
use Rattle.std.proofs.lemmas.Option.{get_or_from_slice_get}
use Rattle.ep_facts.proofs.AmongFacts.{among_append, among_last, among_push}
use Rattle.ep_facts.proofs.BoolFacts.{or_cases, or_left, or_right}
use Rattle.ep_facts.proofs.NatFacts.{from_test, same_test}
use Rattle.ep_machine.specs.Lists.{is_among}
use Rattle.ep_nest.proofs.ElementLemmas.{Contains-filter, Contains-from_filter, Contains-from_map, Contains-map, Contains-nil, among, from_among}
use Rattle.ep_nest.specs.Chains.{IsAbove, LeadsBy}
use Rattle.ep_nest.specs.Links.{ends, ends_of, starting_at, starts_at}
use Rattle.ep_nest.specs.declared.link.Link.{Link}
use Rattle.ep_nest.specs.declared.link.Way.TheVariants.{Down, Up}
use Rattle.ep_walk.specs.Walk.{Walk, with_reached}
use Rattle.ep_climb.proofs.WalkLemmas.{Reaching, over, reaches_none, reaches_one, reaches_same, reaching_next}
use Rattle.ep_climb.specs.Reach.{Ascends, IsClosed, IsFrom, IsGrown, Reaches, are_outer, edges_along, is_along}
use Rattle.ep_climb.specs.declared.ascending.Along.{Along}

-- By a link.
module _ (a : Along) where
  abbrev goes_by : Link → Bool
  goes_by l = is_along a l.entry.0

  -- by the first of these links, or by another
  pub outer_more : (l : Link) (ls : List Link) (x : ℕ) → are_outer a (l ∷ ls) x ≡ (are_outer a (l ∷ []) x || are_outer a ls x)
  outer_more l ls x =
      elim (goes_by l) as (λ (b : Bool). is_among (ends Up (cond b (l ∷ filter goes_by ls) (filter goes_by ls))) x ≡ (is_among (ends Up (cond b (l ∷ []) [])) x || is_among (ends Up (filter goes_by ls)) x)) [
        | true ↦ ap (λ (t : Bool). t || is_among (ends Up (filter goes_by ls)) x) (sym (or-false (x == l.outer.0)))
        | false ↦ refl
      ]

  pub crosses : (l : Link) (w new : Walk) → goes_by l ≡ true → new ≡ with_reached w l.outer.0 → Reaches (are_outer a (l ∷ [])) w new
  crosses l w new t is =
      reaches_same (λ i. i == l.outer.0) (are_outer a (l ∷ [])) w new
      (λ i. sym (ap (λ (b : Bool). is_among (ends Up (cond b (l ∷ []) [])) i) t ∙ or-false (i == l.outer.0)))
      (reaches_one w l.outer.0 new is)

  pub stays_below : (l : Link) (w : Walk) → goes_by l ≡ false → Reaches (are_outer a (l ∷ [])) w w
  stays_below l w f =
      reaches_same (λ i. false) (are_outer a (l ∷ [])) w w (λ i. sym (ap (λ (b : Bool). is_among (ends Up (cond b (l ∷ []) [])) i) f)) (reaches_none w)

  pub crosses_next : (f : ℕ → Bool) (l : Link) (rest : List Link) (old mid new : Walk) → Reaches (are_outer a (l ∷ [])) mid new → Reaching f (are_outer a (l ∷ rest)) old mid → Reaching f (are_outer a rest) old new
  crosses_next f l rest old mid new r h =
      reaching_next f (are_outer a (l ∷ [])) (are_outer a rest) old mid new r
      (record { room = h.room; grown = h.grown; each = λ i. ap (λ (t : Bool). is_among mid.reached i || t) (sym (outer_more l rest i)) ∙ h.each i })

  module _ (ls : List Link) (k x : ℕ) where
    abbrev to : List Link
    to = starting_at Up k ls

    -- a link to an instance by which the walk goes is an edge
    pub edge_from : are_outer a to x ≡ true → Contains (edges_along a ls) (x, k)
    edge_from h =
        let m = Contains-from_map (λ (l : Link). (ends_of Up l).1) (filter goes_by to) x (from_among (ends Up (filter goes_by to)) x h) in
        let by = Contains-from_filter goes_by to m.0 m.1 in
        let there = Contains-from_filter (starts_at Up k) ls m.0 by.0 in
        let inner : m.0.inner.0 ≡ k = from_test m.0.inner.0 k there.1 in
        let pair : (m.0.outer.0, m.0.inner.0) ≡ (x, k) = λ j. (m.2 j, inner j) in
        subst (Contains (edges_along a ls)) pair (Contains-map (ends_of Down) (filter goes_by ls) m.0 (Contains-filter goes_by ls m.0 by.1 there.0))

    pub outer_of : Contains (edges_along a ls) (x, k) → are_outer a to x ≡ true
    outer_of h =
        let m = Contains-from_map (ends_of Down) (filter goes_by ls) (x, k) h in
        let by = Contains-from_filter goes_by ls m.0 m.1 in
        let outer : m.0.outer.0 ≡ x = λ j. (m.2 j).0 in
        let inner : m.0.inner.0 ≡ k = λ j. (m.2 j).1 in
        let there = Contains-filter goes_by to m.0 by.1 (Contains-filter (starts_at Up k) ls m.0 (same_test m.0.inner.0 k inner) by.0) in
        among (ends Up (filter goes_by to)) x (subst (Contains (ends Up (filter goes_by to))) outer (Contains-map (λ (l : Link). (ends_of Up l).1) (filter goes_by to) m.0 there))

-- Each that was reached still is.
still : (old new : List ℕ) (i : ℕ) → IsGrown old new → is_among old i ≡ true → is_among new i ≡ true
still old new i grown t = ap (λ (ks : List ℕ). is_among ks i) grown.1 ∙ (among_append old grown.0 i ∙ or_left (is_among old i) (is_among grown.0 i) t)

front_of : (xs ys : List ℕ) → take (length xs) (xs ++ ys) ≡ xs
front_of xs ys = take-append-le (length xs) xs ys (omega arith) ∙ take_all (length xs) xs (omega arith)

module _ (es : List (ℕ × ℕ)) (j : ℕ) (old : Walk) where
  -- what the walk reached, once it looked at so many: what is right above those is reached
  pub record GoesUp (done : ℕ) (new : Walk) : Type 0 where
    pub room : new.room ≡ old.room
    pub grown : IsGrown old.reached new.reached
    pub here : is_among new.reached j ≡ true
    pub sound : (i : ℕ) → is_among new.reached i ≡ true → (is_among old.reached i ≡ true) ⊎ IsFrom es i j
    pub followed : (k x : ℕ) → is_among (take done new.reached) k ≡ true → Contains es (x, k) → is_among new.reached x ≡ true

  -- right above what is above is above
  step_up : (i k : ℕ) → Contains es (i, k) → IsAbove es i k
  step_up i k link = (0, (k, link, refl))

  pub ascends_again : (new : Walk) → IsClosed es old.reached → is_among old.reached j ≡ true → new ≡ with_reached old j → Ascends es j old new
  ascends_again new closed t is =
      subst (Ascends es j old) (sym (is ∙ ap (λ (b : Bool). cond b old (record old { reached = old.reached ++ j ∷ [] })) t)) (record {
        room = refl;
        grown = grown;
        exact = λ i. (λ h. inl h, back i);
      })
    where
      grown : IsGrown old.reached old.reached
      grown = (reaches_none old).grown

      back : (i : ℕ) → (is_among old.reached i ≡ true) ⊎ IsFrom es i j → is_among old.reached i ≡ true
      back i (inl h) = h
      back i (inr (inl e)) = ap (is_among old.reached) e ∙ t
      back i (inr (inr up)) = closed i j t up

  module _ (new : Walk) (fresh : is_among old.reached j ≡ false) (is : new ≡ with_reached old j) where
    abbrev first : Walk
    first = record old { reached = old.reached ++ j ∷ [] }

    is_first : new ≡ first
    is_first = is ∙ ap (λ (b : Bool). cond b old first) fresh

    pub goes_first : IsClosed es old.reached → GoesUp (length old.reached) new
    goes_first closed = subst (GoesUp (length old.reached)) (sym is_first) (record {
      room = refl;
      grown = (j ∷ [], refl);
      here = among_last old.reached j;
      sound = λ i t. elim (among_push old.reached j i t) [ inl before ↦ inl before | inr e ↦ inr (inl e) ];
      followed = λ k x t link.
          let before : is_among old.reached k ≡ true = ap (λ (ks : List ℕ). is_among ks k) (sym (front_of old.reached (j ∷ []))) ∙ t in
          still old.reached first.reached x (j ∷ [], refl) (closed x k before (step_up x k link));
    })

    -- if nothing is above
    pub ascends_alone : ((i k : ℕ) → Contains es (i, k) → ⊥) → Ascends es j old new
    ascends_alone none = subst (Ascends es j old) (sym is_first) (record { room = refl; grown = (j ∷ [], refl); exact = λ i. (forth i, back i) }) where
      forth : (i : ℕ) → is_among first.reached i ≡ true → (is_among old.reached i ≡ true) ⊎ IsFrom es i j
      forth i t = elim (among_push old.reached j i t) [ inl before ↦ inl before | inr e ↦ inr (inl e) ]

      back : (i : ℕ) → (is_among old.reached i ≡ true) ⊎ IsFrom es i j → is_among first.reached i ≡ true
      back i (inl before) = still old.reached first.reached i (j ∷ [], refl) before
      back i (inr (inl e)) = ap (is_among first.reached) e ∙ among_last old.reached j
      back i (inr (inr up)) = absurd (none i up.1.0 up.1.1)

  -- it looked at one more
  pub goes_on : (done k : ℕ) (f : ℕ → Bool) (mid new : Walk) → IsClosed es old.reached → done < length mid.reached → slice_get mid.reached done ≡ Some k
      → ((x : ℕ) → f x ≡ true → Contains es (x, k)) → ((x : ℕ) → Contains es (x, k) → f x ≡ true) → Reaches f mid new → GoesUp done mid → GoesUp (done + 1) new
  goes_on done k f mid new closed lt at edge outer r g = record {
    room = r.room ∙ g.room;
    grown = (g.grown.0 ++ r.grown.0, r.grown.1 ∙ (ap (λ (ks : List ℕ). ks ++ r.grown.0) g.grown.1 ∙ append_assoc old.reached g.grown.0 r.grown.0));
    here = still mid.reached new.reached j r.grown g.here;
    sound = λ i t. elim (or_cases (is_among mid.reached i) (f i) (sym (r.each i) ∙ t)) [
      | inl before ↦ g.sound i before
      | inr more ↦ up i (edge i more) (g.sound k there)
    ];
    followed = λ m x t link. elim (among_push (take done mid.reached) k m (sym (ap (λ (ks : List ℕ). is_among ks m) taken) ∙ t)) [
      | inl before ↦ still mid.reached new.reached x r.grown (g.followed m x before link)
      | inr e ↦ r.each x ∙ or_right (is_among mid.reached x) (f x) (outer x (subst (λ (n : ℕ). Contains es (x, n)) e link))
    ];
  } where
    placed : get_or mid.reached done 0 ≡ k
    placed = get_or_from_slice_get mid.reached done k 0 at

    there : is_among mid.reached k ≡ true
    there = ap (is_among mid.reached) (sym placed) ∙ among mid.reached (get_or mid.reached done 0) (Contains-get_or mid.reached done 0 lt)

    taken : take (done + 1) new.reached ≡ take done mid.reached ++ k ∷ []
    taken =
        ap (take (done + 1)) r.grown.1
        ∙ (take-append-le (done + 1) mid.reached r.grown.0 (omega (arith, lt))
        ∙ (take_more mid.reached done 0 lt ∙ ap (λ (n : ℕ). take done mid.reached ++ n ∷ []) placed))

    up : (i : ℕ) → Contains es (i, k) → (is_among old.reached k ≡ true) ⊎ IsFrom es k j → (is_among old.reached i ≡ true) ⊎ IsFrom es i j
    up i link (inl before) = inl (closed i k before (step_up i k link))
    up i link (inr from) = inr (inr (over es i k j (step_up i k link) from))

  -- once it looked at all that it reached
  pub goes_up : (done : ℕ) (new : Walk) → length new.reached ≤ done → GoesUp done new → Ascends es j old new
  goes_up done new le g = record { room = g.room; grown = g.grown; exact = λ i. (g.sound i, back i) } where
    all : take done new.reached ≡ new.reached
    all = take_all done new.reached le

    chain : (n x : ℕ) → LeadsBy es n x j → is_among new.reached x ≡ true
    chain zero x p = ap (is_among new.reached) p ∙ g.here
    chain (suc n) x p = g.followed p.0 x (ap (λ (ks : List ℕ). is_among ks p.0) all ∙ chain n p.0 p.2) p.1

    back : (i : ℕ) → (is_among old.reached i ≡ true) ⊎ IsFrom es i j → is_among new.reached i ≡ true
    back i (inl before) = still old.reached new.reached i g.grown before
    back i (inr (inl e)) = ap (is_among new.reached) e ∙ g.here
    back i (inr (inr up)) = chain (suc up.0) i up.1

-- no link, no edge
pub no_edge : (a : Along) (ls : List Link) → ls ≡ [] → (i k : ℕ) → Contains (edges_along a ls) (i, k) → ⊥
no_edge a ls none i k h = Contains-nil (i, k) (subst (λ (ms : List Link). Contains (edges_along a ms) (i, k)) none h)
