-- A circle, once two of its keys or a new one are joined.
use Rattle.std.proofs.Common.{◌≡◌, ◌≢◌, ◌⊎◌, ℕ, zero, suc, ◌+◌, ◌<◌, ◌≤◌, ◌==◌, nat_lt, true, false, not, eqb, All, Contains, List, [], ◌∷◌, ◌++◌, length, filter, get_or, Option, Some, None, IfSome, refl, sym, ap, subst, ◌∙◌, inl, inr, arith, if◌then◌else◌}
use Rattle.std.specs.List.{list_any, remove}
use Rattle.std.proofs.lemmas.Bool.{cases_eq, cases_lt}
use Rattle.std.proofs.lemmas.Bool.Decides.{nat_tests}
use Rattle.std.proofs.lemmas.List.{get_or_past, length_push, get_or_push, get_or_default}
use Rattle.std.proofs.lemmas.List.Edits.{length-remove}
use Rattle.std.proofs.lemmas.List.Elements.{All-cons, All-contains, All-head, All-tail, Contains-get_or}
use Rattle.std.proofs.lemmas.Map.Keys.{IsDistinct-from_apart}
use Rattle.std.proofs.lemmas.Map.Steps.{length-le_from_distinct_below}
use Rattle.ep_facts.proofs.NatFacts.{same_test, test_apart}
use Rattle.ep_rings.specs.Ring.{IsRing, walk}
use Rattle.ep_rings.proofs.RingLemmas.{ring_kept, ring_pushed, ring_removed, walk-ring}
use Rattle.ep_rings.proofs.AmongLemmas.{filter-remove, filter_apart}
use Rattle.ep_rings.specs.Circles.{IsCircle, keys_in, lengthened, shortened, without}
use Rattle.ep_rings.specs.declared.circle.Circle.{Circle}

-- what stands behind a place of a ring, and at its end the head
on_ring : (head : ℕ) (xs : List ℕ) (i : ℕ) → i ≤ length xs → Contains (head ∷ xs) (get_or xs i head)
on_ring head xs i le = elim (cases_lt i (length xs)) [
  | inl l ↦ Contains-get_or (head ∷ xs) (suc i) head (omega (arith, l))
  | inr g ↦ subst (λ z. Contains (head ∷ xs) z) (sym (get_or_past xs i head g)) (Contains-get_or (head ∷ xs) zero head (omega arith))
]

remove_last : (xs : List ℕ) (k : ℕ) → remove (xs ++ k ∷ []) (length xs) ≡ xs
remove_last [] k = refl
remove_last (x ∷ xs) k = ap (λ (ys : List ℕ). x ∷ ys) (remove_last xs k)

no_items : (xs : List ℕ) → length xs ≤ 0 → xs ≡ []
no_items [] le = refl
no_items (x ∷ xs) le = absurd (omega (arith, le))

has_items : (xs : List ℕ) → 0 < length xs → (x : ℕ) × (ys : List ℕ) × (xs ≡ x ∷ ys)
has_items [] lt = absurd (omega (arith, lt))
has_items (x ∷ xs) lt = (x, xs, refl)

at_head : (head : ℕ) (xs : List ℕ) (i k : ℕ) → xs ≡ [] → get_or (head ∷ xs) i head ≡ k → head ≡ k
at_head head xs zero k e is = is
at_head head xs (suc i) k e is = sym (ap (λ (ys : List ℕ). get_or ys i head) e) ∙ is

without_head : (k : ℕ) (xs : List ℕ) → filter (λ x. not (x == k)) (k ∷ xs) ≡ filter (λ x. not (x == k)) xs
without_head k xs = rw (same_test k k refl) refl

with_head : (x : ℕ) (xs : List ℕ) (k : ℕ) → x ≢ k → filter (λ x. not (x == k)) (x ∷ xs) ≡ x ∷ filter (λ x. not (x == k)) xs
with_head x xs k ne = rw (test_apart x k ne) refl

module _ (next prev : ℕ → ℕ) where
  pub keys_are : (o : Option Circle) (xs : List ℕ) → IsCircle next prev o xs → keys_in next o ≡ xs
  keys_are None xs h = sym h
  keys_are (Some c) xs h =
      let n : c.len ≡ suc (length h.0) = h.2 ∙ ap length h.1 in
      ap (λ m. walk next m c.first) n ∙ (ap (λ (ys : List ℕ). c.first ∷ ys) (walk-ring next prev c.first h.0 h.3) ∙ sym h.1)

  -- a ring from its second key on
  pub rotated : (head b : ℕ) (xs : List ℕ) → IsRing next prev head (b ∷ xs) → IsRing next prev b (xs ++ head ∷ [])
  rotated head b xs r =
      let inner : (i : ℕ) → i ≤ length xs → get_or (xs ++ head ∷ []) i b ≡ get_or xs i head = behind xs in
      let whole : (i : ℕ) → i ≤ suc (length xs) → get_or (b ∷ xs ++ head ∷ []) i b ≡ get_or (b ∷ xs) i head = behind (b ∷ xs) in
      let long = length_push xs head in
      record {
        nexts = λ i le. elim (cases_lt i (suc (length xs))) [
          | inl l ↦ rw (whole i (omega arith), inner i (omega arith)) (r.nexts (suc i) (omega arith))
          | inr g ↦ let out = get_or_past (xs ++ head ∷ []) i b (omega (arith, g, long)) in let last = get_or_past (b ∷ xs) i head g in rw (whole i (omega (arith, le, long)), last, out) (r.nexts zero (omega arith))
        ];
        prevs = λ i le. elim (cases_lt i (suc (length xs))) [
          | inl l ↦ rw (whole i (omega arith), inner i (omega arith)) (r.prevs (suc i) (omega arith))
          | inr g ↦ let out = get_or_past (xs ++ head ∷ []) i b (omega (arith, g, long)) in let last = get_or_past (b ∷ xs) i head g in rw (whole i (omega (arith, le, long)), last, out) (r.prevs zero (omega arith))
        ];
        apart = λ i j before le. elim (cases_lt j (suc (length xs))) [
          | inl l ↦ rw (whole i (omega arith), whole j (omega arith)) (r.apart (suc i) (suc j) (omega arith) (omega arith))
          | inr g ↦ let last = get_or_past (b ∷ xs) j head g in rw (whole i (omega (arith, le, long)), whole j (omega (arith, le, long)), last) (λ e. r.apart zero (suc i) (omega arith) (omega (arith, le, long, before)) (sym e))
        ];
      }
    where
      behind : (ys : List ℕ) (i : ℕ) → i ≤ length ys → get_or (ys ++ head ∷ []) i b ≡ get_or ys i head
      behind [] zero le = refl
      behind [] (suc i) le = absurd (omega arith)
      behind (y ∷ ys) zero le = refl
      behind (y ∷ ys) (suc i) le = behind ys i (omega arith)

  -- where a key stands in a ring
  record Place (head : ℕ) (rest : List ℕ) (k : ℕ) : Type 0 where
    pub at : ℕ
    pub within : at ≤ length rest
    pub is : get_or (head ∷ rest) at head ≡ k

  place : (head : ℕ) (rest xs : List ℕ) (k : ℕ) → xs ≡ head ∷ rest → Contains xs k → Place head rest k
  place head rest xs k e c =
      let d = subst (λ (ys : List ℕ). Contains ys k) e c in
      record { at = d.0; within = omega (arith, d.1); is = get_or_default (head ∷ rest) d.0 head k d.1 ∙ d.2 }

  none_there : (xs : List ℕ) (k : ℕ) → xs ≡ [] → Contains xs k → ⊥
  none_there xs k e c = let l = ap length e in omega (arith, c.1, l)

  -- the neighbours of a key of a circle are in it
  pub next_there : (o : Option Circle) (xs : List ℕ) (k : ℕ) → IsCircle next prev o xs → Contains xs k → Contains xs (next k)
  next_there None xs k h c = absurd (none_there xs k h c)
  next_there (Some t) xs k h c =
      let p = place t.first h.0 xs k h.1 c in
      let is : next k ≡ get_or h.0 p.at t.first = ap next (sym p.is) ∙ h.3.nexts p.at p.within in
      subst (λ (ys : List ℕ). Contains ys (next k)) (sym h.1) (subst (λ (z : ℕ). Contains (t.first ∷ h.0) z) (sym is) (on_ring t.first h.0 p.at p.within))

  before_at : (head : ℕ) (rest : List ℕ) (i : ℕ) → IsRing next prev head rest → i ≤ length rest → Contains (head ∷ rest) (prev (get_or (head ∷ rest) i head))
  before_at head rest zero r le =
      let out = get_or_past rest (length rest) head (omega arith) in
      let is : prev head ≡ get_or (head ∷ rest) (length rest) head = ap prev (sym out) ∙ r.prevs (length rest) (omega arith) in
      subst (λ (z : ℕ). Contains (head ∷ rest) z) (sym is) (Contains-get_or (head ∷ rest) (length rest) head (omega arith))
  before_at head rest (suc i) r le = subst (λ (z : ℕ). Contains (head ∷ rest) z) (sym (r.prevs i (omega arith))) (Contains-get_or (head ∷ rest) i head (omega arith))

  pub prev_there : (o : Option Circle) (xs : List ℕ) (k : ℕ) → IsCircle next prev o xs → Contains xs k → Contains xs (prev k)
  prev_there None xs k h c = absurd (none_there xs k h c)
  prev_there (Some t) xs k h c =
      let p = place t.first h.0 xs k h.1 c in
      subst (λ (ys : List ℕ). Contains ys (prev k)) (sym h.1) (subst (λ (z : ℕ). Contains (t.first ∷ h.0) (prev z)) p.is (before_at t.first h.0 p.at h.3 p.within))

  -- a key behind which it stands itself is the only one
  alone_at : (t : Circle) (xs : List ℕ) (k : ℕ) (h : IsCircle next prev (Some t) xs) → (i : ℕ) → i ≤ length h.0 → get_or (t.first ∷ h.0) i t.first ≡ k → nat_lt 1 t.len ≡ not (k == next k)
  alone_at t xs k h i le is =
      let long = ap length h.1 in
      let behind : next k ≡ get_or h.0 i t.first = ap next (sym is) ∙ h.3.nexts i le in
      elim (cases_lt 1 t.len) [
        | inl more ↦
            let lt : nat_lt 1 t.len ≡ true = grind (arith, nat_tests, more) in
            let ne : k ≢ next k = elim (cases_lt i (length h.0)) [
              | inl l ↦ (λ g. h.3.apart i (suc i) (omega arith) (omega (arith, l)) (is ∙ (g ∙ behind)))
              | inr g ↦ (λ e. h.3.apart zero i (omega (arith, more, long, h.2, g)) le (sym (is ∙ (e ∙ (behind ∙ get_or_past h.0 i t.first g)))))
            ] in
            rw (lt, test_apart k (next k) ne) refl
        | inr few ↦
            let ge : nat_lt 1 t.len ≡ false = grind (arith, nat_tests, few) in
            let none = no_items h.0 (omega (arith, few, long, h.2)) in
            let head : t.first ≡ k = at_head t.first h.0 i k none is in
            let same : k ≡ next k = sym head ∙ (sym (get_or_past h.0 i t.first (omega (arith, few, long, h.2))) ∙ sym behind) in
            rw (ge, same_test k (next k) same) refl
      ]

  pub alone : (o : Option Circle) (xs : List ℕ) (k : ℕ) → IsCircle next prev o xs → Contains xs k → IfSome o (λ c. nat_lt 1 c.len ≡ not (k == next k))
  alone None xs k h c = tt
  alone (Some t) xs k h c = let p = place t.first h.0 xs k h.1 c in alone_at t xs k h p.at p.within p.is

  pub first_there : (t : Circle) (xs : List ℕ) → IsCircle next prev (Some t) xs → Contains xs t.first
  first_there t xs h = subst (λ (ys : List ℕ). Contains ys t.first) (sym h.1) (Contains-get_or (t.first ∷ h.0) zero t.first (omega arith))

  -- the key at which a circle begins that a key joins, and its last one
  abbrev pub last_of : ℕ → ℕ → ℕ
  last_of first k = if first == k then first else prev first

  pub begins : (o : Option Circle) (xs : List ℕ) (k : ℕ) → IsCircle next prev o xs → (Contains xs (lengthened k o).first) ⊎ ((lengthened k o).first ≡ k)
  begins None xs k h = inr refl
  begins (Some t) xs k h = inl (first_there t xs h)

  pub ends : (o : Option Circle) (xs : List ℕ) (k : ℕ) → IsCircle next prev o xs → (Contains xs (last_of (lengthened k o).first k)) ⊎ (last_of (lengthened k o).first k ≡ k)
  ends None xs k h = inr (rw (same_test k k refl) refl)
  ends (Some t) xs k h = elim (cases_eq t.first k) [
    | inl e ↦ inr (rw (same_test t.first k e) e)
    | inr ne ↦ inl (rw (test_apart t.first k ne) (prev_there (Some t) xs t.first h (first_there t xs h)))
  ]

  -- no key stands in a circle twice
  pub keys_apart : (o : Option Circle) (xs : List ℕ) → IsCircle next prev o xs → (i j d : ℕ) → i < j → j < length xs → get_or xs i d ≢ get_or xs j d
  keys_apart None xs h i j d before lt same = absurd (omega (arith, ap length h, lt))
  keys_apart (Some t) xs h i j d before lt same =
      let long = ap length h.1 in
      let at : (z : ℕ) → z < length (t.first ∷ h.0) → get_or (t.first ∷ h.0) z t.first ≡ get_or xs z d = (λ z l. get_or_default (t.first ∷ h.0) z t.first d l ∙ ap (λ (ys : List ℕ). get_or ys z d) (sym h.1)) in
      h.3.apart i j before (omega (arith, lt, long)) (at i (omega (arith, before, lt, long)) ∙ (same ∙ sym (at j (omega (arith, lt, long)))))

  among_below : (xs : List ℕ) (many q : ℕ) → All (λ x. x < many) xs → list_any (eqb q) xs ≡ true → q < many
  among_below [] many q below h = absurd cc
  among_below (x ∷ xs) many q below h = elim (cases_eq q x) [
    | inl e ↦ subst (λ (z : ℕ). z < many) (sym e) (All-head (λ x. x < many) x xs below)
    | inr ne ↦ among_below xs many q (All-tail (λ x. x < many) x xs below) (let apart = test_apart q x ne in rw apart at h)
  ]

  few_keys : (xs : List ℕ) (many k : ℕ) → ((i j d : ℕ) → i < j → j < length xs → get_or xs i d ≢ get_or xs j d) → All (λ x. x < many) xs → All (λ x. x ≢ k) xs → k < many → length xs < many
  few_keys xs many k apart below fresh lt =
      let distinct = IsDistinct-from_apart eqb (k ∷ xs) both in
      let fits = length-le_from_distinct_below (k ∷ xs) many distinct under in
      omega (arith, fits)
    where
      both : (i j d : ℕ) → i < j → j < length (k ∷ xs) → eqb (get_or (k ∷ xs) i d) (get_or (k ∷ xs) j d) ≡ false
      both i zero d before l = absurd (omega (arith, before))
      both zero (suc j) d before l = test_apart k (get_or xs j d) (λ e. fresh j d (omega (arith, l)) (sym e))
      both (suc i) (suc j) d before l = test_apart (get_or xs i d) (get_or xs j d) (apart i j d (omega (arith, before)) (omega (arith, l)))

      under : (q : ℕ) → list_any (eqb q) (k ∷ xs) ≡ true → q < many
      under q h = among_below (k ∷ xs) many q (All-cons (λ x. x < many) k xs lt below) h

  -- a circle has fewer keys than there are, if there is one that it hasn't
  pub few : (o : Option Circle) (xs : List ℕ) (many k : ℕ) → IsCircle next prev o xs → All (λ x. x < many) xs → All (λ x. x ≢ k) xs → k < many → (most : ℕ) → many ≤ most → IfSome o (λ c. c.len < most)
  few None xs many k h below fresh lt most le = tt
  few (Some t) xs many k h below fresh lt most le =
      let fewer = few_keys xs many k (keys_apart (Some t) xs h) below fresh lt in
      omega (arith, h.2, fewer, le)

module _ (next prev next' prev' : ℕ → ℕ) where
  -- a circle of which no link was written
  pub circle_kept : (o : Option Circle) (xs : List ℕ) → IsCircle next prev o xs → All (λ k. next' k ≡ next k) xs → All (λ k. prev' k ≡ prev k) xs → IsCircle next' prev' o xs
  circle_kept None xs h n p = h
  circle_kept (Some t) xs h n p =
      let on = subst (λ (ys : List ℕ). All (λ k. next' k ≡ next k) ys) h.1 n in
      let op = subst (λ (ys : List ℕ). All (λ k. prev' k ≡ prev k) ys) h.1 p in (
        h.0,
        h.1,
        h.2,
        ring_kept next prev next' prev' t.first h.0 h.3
            (λ i le. on i t.first (omega (arith, le)))
            (λ i le. All-contains (λ k. prev' k ≡ prev k) (t.first ∷ h.0) (get_or h.0 i t.first) op (on_ring t.first h.0 i le)),
      )

  module _ (k : ℕ) where
    -- a key that joins
    pub joined_new : (xs : List ℕ) → xs ≡ [] → next' k ≡ k → prev' k ≡ k → IsCircle next' prev' (Some (lengthened k None)) (xs ++ k ∷ [])
    joined_new xs e n p = (
      [],
      ap (λ (ys : List ℕ). ys ++ k ∷ []) e,
      sym (ap (λ (ys : List ℕ). length (ys ++ k ∷ [])) e),
      record {
        nexts = λ i le. (let z : i ≡ 0 = omega (arith, le) in rw z n);
        prevs = λ i le. (let z : i ≡ 0 = omega (arith, le) in rw z p);
        apart = λ i j before le. absurd (omega (arith, before, le));
      },
    )

    pub joined_last : (t : Circle) (xs : List ℕ) (last : ℕ) → IsCircle next prev (Some t) xs → All (λ x. x ≢ k) xs → last ≡ prev t.first
        → next' last ≡ k → next' k ≡ t.first → prev' k ≡ last → prev' t.first ≡ k
        → ((z : ℕ) → z ≢ last → z ≢ k → next' z ≡ next z) → ((z : ℕ) → z ≢ k → z ≢ t.first → prev' z ≡ prev z)
        → IsCircle next' prev' (Some (lengthened k (Some t))) (xs ++ k ∷ [])
    joined_last t xs last h fresh el nl nk pk ph nk' pk' =
        let out = get_or_past h.0 (length h.0) t.first (omega arith) in
        let is : last ≡ get_or (t.first ∷ h.0) (length h.0) t.first = el ∙ (ap prev (sym out) ∙ h.3.prevs (length h.0) (omega arith)) in
        let new = subst (λ (ys : List ℕ). All (λ x. x ≢ k) ys) h.1 fresh in
        let long : length (xs ++ k ∷ []) ≡ t.len + 1 = omega (arith, length_push xs k, h.2) in (
          h.0 ++ k ∷ [],
          ap (λ (ys : List ℕ). ys ++ k ∷ []) h.1,
          sym long,
          ring_pushed next prev next' prev' t.first h.0 k last h.3 is (λ i le. new i t.first (omega (arith, le))) nl nk pk ph nk' pk',
        )

    -- a key that leaves
    module _ (joined : next' (prev k) ≡ next k) (back : prev' (next k) ≡ prev k) (nexts : (z : ℕ) → z ≢ prev k → next' z ≡ next z) (prevs : (z : ℕ) → z ≢ next k → prev' z ≡ prev z) where
      ring_left : (head : ℕ) (xs : List ℕ) (j : ℕ) → IsRing next prev head xs → j < length xs → get_or xs j head ≡ k → IsRing next' prev' head (remove xs j)
      ring_left head xs j r lt is =
          let a : prev k ≡ get_or (head ∷ xs) j head = ap prev (sym is) ∙ r.prevs j (omega arith) in
          let b : next k ≡ get_or xs (suc j) head = ap next (sym is) ∙ r.nexts (suc j) (omega arith) in
          ring_removed next prev next' prev' head xs j (prev k) (next k) r lt a b joined back nexts prevs

      -- the first one, where another is behind it
      left_first : (b : ℕ) (xs : List ℕ) → IsRing next prev k (b ∷ xs) → IsRing next' prev' b xs
      left_first b xs r =
          let long = length_push xs k in
          let it = ring_left b (xs ++ k ∷ []) (length xs) (rotated next prev k b xs r) (omega (arith, long)) (get_or_push xs k b (length xs) refl) in
          subst (λ (ys : List ℕ). IsRing next' prev' b ys) (remove_last xs k) it

      circle_made : (t : Circle) (ys : List ℕ) (b : ℕ) (zs : List ℕ) → t.first ≡ b → ys ≡ b ∷ zs → t.len ≡ length ys → IsRing next' prev' b zs → IsCircle next' prev' (Some t) ys
      circle_made t ys b zs e f l r = (zs, f ∙ ap (λ (z : ℕ). z ∷ zs) (sym e), l, subst (λ (z : ℕ). IsRing next' prev' z zs) (sym e) r)

      left_one : (t : Circle) (xs rest : List ℕ) → xs ≡ t.first ∷ rest → t.len ≡ length xs → t.len ≤ 1 → Contains xs k → IsCircle next' prev' (shortened k (next k) (Some t)) (filter (λ x. not (x == k)) xs)
      left_one t xs rest e l le c =
          let few : nat_lt 1 t.len ≡ false = grind (arith, nat_tests, le) in
          let m = ap length e in
          let none = no_items rest (omega (arith, l, le, m)) in
          let p = place next prev t.first rest xs k e c in
          let at : t.first ≡ k = at_head t.first rest p.at k none p.is in
          let is : xs ≡ k ∷ [] = e ∙ (λ i. at i ∷ none i) in
          rw (few, is) (without_head k [])

      left_head : (t : Circle) (xs : List ℕ) → IsCircle next prev (Some t) xs → 1 < t.len → t.first ≡ k → IsCircle next' prev' (Some (without k (next k) t)) (filter (λ x. not (x == k)) xs)
      left_head t xs h lt e =
          let m = ap length h.1 in
          let some = has_items h.0 (omega (arith, lt, m, h.2)) in
          let r : IsRing next prev k (some.0 ∷ some.1) = subst (λ (z : ℕ). IsRing next prev z (some.0 ∷ some.1)) e (subst (λ (ys : List ℕ). IsRing next prev t.first ys) some.2 h.3) in
          let is : xs ≡ k ∷ some.0 ∷ some.1 = h.1 ∙ (λ i. e i ∷ some.2 i) in
          let kept : filter (λ x. not (x == k)) xs ≡ some.0 ∷ some.1 = ap (λ (ys : List ℕ). filter (λ x. not (x == k)) ys) is ∙ (without_head k (some.0 ∷ some.1) ∙ filter_apart (some.0 ∷ some.1) k k (λ j l g. r.apart zero (suc j) (omega arith) (omega (arith, l)) (sym g))) in
          let n = ap length is in let o = ap length kept in
          let begins : (without k (next k) t).first ≡ some.0 = rw (same_test t.first k e) (r.nexts zero (omega arith)) in
          circle_made (without k (next k) t) (filter (λ x. not (x == k)) xs) some.0 some.1 begins kept (omega (arith, h.2, n, o)) (left_first some.0 some.1 r)

      left_later : (t : Circle) (xs : List ℕ) (h : IsCircle next prev (Some t) xs) → t.first ≢ k → (j : ℕ) → j < length h.0 → get_or h.0 j t.first ≡ k → IsCircle next' prev' (Some (without k (next k) t)) (filter (λ x. not (x == k)) xs)
      left_later t xs h ne j lt is =
          let r = h.3 in
          let cut : filter (λ x. not (x == k)) h.0 ≡ remove h.0 j = filter-remove h.0 k j t.first lt is (λ z l apart same. elim (cases_lt z j) [
            | inl b ↦ r.apart (suc z) (suc j) (omega (arith, b)) (omega (arith, lt)) (same ∙ sym is)
            | inr g ↦ r.apart (suc j) (suc z) (omega (arith, apart, g)) (omega (arith, l)) (is ∙ sym same)
          ]) in
          let kept : filter (λ x. not (x == k)) xs ≡ t.first ∷ remove h.0 j = ap (λ (ys : List ℕ). filter (λ x. not (x == k)) ys) h.1 ∙ (with_head t.first h.0 k ne ∙ ap (λ (ys : List ℕ). t.first ∷ ys) cut) in
          let n = ap length h.1 in let o = ap length kept in let q = length-remove h.0 j lt in
          let begins : (without k (next k) t).first ≡ t.first = rw (test_apart t.first k ne) refl in
          circle_made (without k (next k) t) (filter (λ x. not (x == k)) xs) t.first (remove h.0 j) begins kept (omega (arith, h.2, n, o, q)) (ring_left t.first h.0 j r lt is)

      left_more : (t : Circle) (xs : List ℕ) → IsCircle next prev (Some t) xs → 1 < t.len → Contains xs k → IsCircle next' prev' (Some (without k (next k) t)) (filter (λ x. not (x == k)) xs)
      left_more t xs h lt c = let p = place next prev t.first h.0 xs k h.1 c in behind p.at p.within p.is
        where
          behind : (i : ℕ) → i ≤ length h.0 → get_or (t.first ∷ h.0) i t.first ≡ k → IsCircle next' prev' (Some (without k (next k) t)) (filter (λ x. not (x == k)) xs)
          behind zero le is = left_head t xs h lt is
          behind (suc j) le is = elim (cases_eq t.first k) [
            | inl e ↦ left_head t xs h lt e
            | inr ne ↦ left_later t xs h ne j (omega (arith, le)) is
          ]

      pub circle_left : (o : Option Circle) (xs : List ℕ) → IsCircle next prev o xs → Contains xs k → IsCircle next' prev' (shortened k (next k) o) (filter (λ x. not (x == k)) xs)
      circle_left None xs h c = absurd (none_there next prev xs k h c)
      circle_left (Some t) xs h c = elim (cases_lt 1 t.len) [
        | inl more ↦ let test : nat_lt 1 t.len ≡ true = grind (arith, nat_tests, more) in rw test (left_more t xs h more c)
        | inr one ↦ left_one t xs h.0 h.1 h.2 one c
      ]
