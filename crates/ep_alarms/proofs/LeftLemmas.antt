-- Raising at one description after another, where the bits at one of them were raised before.
use Rattle.std.proofs.Common.{◌≡◌, ◌≢◌, ◌∙◌, ◌+◌, ◌<◌, ◌≤◌, ℕ, zero, suc, Bool, true, false, List, [], ◌∷◌, None, Option, Some, ap, arith, cond, get_or, inl, inr, map, refl, sym}
use Rattle.std.proofs.lemmas.Bool.Decides.{eqb_tells}
use Rattle.std.proofs.lemmas.Option.{none-some}
use Rattle.std.specs.List.{AllByRecursion}
use Rattle.ep_base.specs.declared.ids.DescId.{DescId}
use Rattle.ep_base.specs.declared.mask.Mask.{Mask}
use Rattle.ep_calls.proofs.DueLemmas.{raised_none}
use Rattle.ep_calls.specs.Raising.{raised_each}
use Rattle.ep_due.specs.DueMap.{Moments, moment_of}
use Rattle.ep_due.specs.Tick.{is_due}
use Rattle.ep_interest.specs.Registrations.{raised_on}
use Rattle.ep_interest.specs.declared.entry.Entry.{Entry}
use Rattle.ep_table.specs.Live.{key_of, live_from}

-- where the bits are the same
pub each_same : (f g : DescId → Mask) (n : ℕ) (ids : List DescId) (xs : List Entry) → AllByRecursion (λ id. f id ≡ g id) ids → raised_each f n ids xs ≡ raised_each g n ids xs
each_same f g n [] xs h = refl
each_same f g n (id ∷ ids) xs h = ap (λ (m : Mask). raised_each f n ids (map (raised_on id m n) xs)) h.0 ∙ each_same f g n ids (map (raised_on id (g id) n) xs) h.1

-- where there are none
pub each_none : (f : DescId → Mask) (n : ℕ) (ids : List DescId) (xs : List Entry) → AllByRecursion (λ id. (f id).0 ≡ 0) ids → raised_each f n ids xs ≡ xs
each_none f n [] xs h = refl
each_none f n (id ∷ ids) xs h = ap (raised_each f n ids) (sym (raised_none id (f id) n xs h.0)) ∙ each_none f n ids xs h.1

-- at two descriptions in either order
swap_one : (a b : DescId) (p q : Mask) (n : ℕ) (x : Entry) → a.0 ≢ b.0 → raised_on a p n (raised_on b q n x) ≡ raised_on b q n (raised_on a p n x)
swap_one a b p q n x ne = elim (eqb_tells x.desc.0 a.0) [
  | inl s ↦ elim (eqb_tells x.desc.0 b.0) [
    | inl t ↦ absurd (ne (sym s.1 ∙ t.1))
    | inr t ↦ rw (s.0, t.0, s.0) refl
  ]
  | inr s ↦ elim (eqb_tells x.desc.0 b.0) [
    | inl t ↦ rw (s.0, t.0, s.0) refl
    | inr t ↦ rw (s.0, t.0, s.0) refl
  ]
]

swap : (a b : DescId) (p q : Mask) (n : ℕ) (xs : List Entry) → a.0 ≢ b.0 → map (raised_on a p n) (map (raised_on b q n) xs) ≡ map (raised_on b q n) (map (raised_on a p n) xs)
swap a b p q n [] ne = refl
swap a b p q n (x ∷ xs) ne = λ i. swap_one a b p q n x ne i ∷ swap a b p q n xs ne i

module _ (f g : DescId → Mask) (n : ℕ) where
  -- at the keys from one on
  beyond : (keys : List (Option ℕ)) (j : ℕ) → ((id : DescId) → j ≤ id.0 → g id ≡ f id) → (xs : List Entry) → raised_each f n (live_from j keys) xs ≡ raised_each g n (live_from j keys) xs
  beyond [] j h xs = refl
  beyond (None ∷ rest) j h xs = beyond rest (j + 1) (λ id le. h id (omega (arith, le))) xs
  beyond (Some m ∷ rest) j h xs =
      ap (λ (b : Mask). raised_each f n (live_from (j + 1) rest) (map (raised_on (key_of j) b n) xs)) (sym (h (key_of j) (omega arith)))
      ∙ beyond rest (j + 1) (λ id le. h id (omega (arith, le))) (map (raised_on (key_of j) (g (key_of j)) n) xs)

  -- at one description first, and then at all but it
  pub each_less : (desc : DescId) → (g desc).0 ≡ 0 → ((id : DescId) → id.0 ≢ desc.0 → g id ≡ f id) → (keys : List (Option ℕ)) (j i number : ℕ) → get_or keys i None ≡ Some number → desc.0 ≡ j + i → (xs : List Entry)
      → raised_each f n (live_from j keys) xs ≡ raised_each g n (live_from j keys) (map (raised_on desc (f desc) n) xs)
  each_less desc none h [] j i number there is xs = absurd (none-some number there)
  each_less desc none h (None ∷ rest) j zero number there is xs = absurd (none-some number there)
  each_less desc none h (None ∷ rest) j (suc i) number there is xs = each_less desc none h rest (j + 1) i number there (omega (arith, is)) xs
  each_less desc none h (Some m ∷ rest) j zero number there is xs =
      let at : j ≡ desc.0 = omega (arith, is) in
      let own : key_of j ≡ desc = ap key_of at in
      let ys = map (raised_on desc (f desc) n) xs in
      (λ k. raised_each f n (live_from (j + 1) rest) (map (raised_on (own k) (f (own k)) n) xs))
      ∙ (beyond rest (j + 1) (λ id le. h id (λ e. absurd (omega (arith, le, e, at)))) ys
      ∙ ap (raised_each g n (live_from (j + 1) rest)) (raised_none (key_of j) (g (key_of j)) n ys (ap (λ (d : DescId). (g d).0) own ∙ none)))
  each_less desc none h (Some m ∷ rest) j (suc i) number there is xs =
      let away : j ≢ desc.0 = λ e. absurd (omega (arith, is, e)) in
      each_less desc none h rest (j + 1) i number there (omega (arith, is)) (map (raised_on (key_of j) (f (key_of j)) n) xs)
      ∙ ap (raised_each g n (live_from (j + 1) rest)) (swap desc (key_of j) (f desc) (f (key_of j)) n xs (λ e. away (sym e))
      ∙ ap (λ (b : Mask). map (raised_on (key_of j) b n) (map (raised_on desc (f desc) n) xs)) (sym (h (key_of j) away)))

abbrev bit : Bool → ℕ
bit b = cond b 1 0

-- how many descriptions have a moment that has come: the measure of a tick's loop
abbrev pub count_due : ℕ → Moments → List DescId → ℕ
count_due now a [] = 0
count_due now a (id ∷ ids) = bit (is_due now (moment_of a id.0)) + count_due now a ids

one_more : (b c : Bool) → (c ≡ true → b ≡ true) → bit c ≤ bit b
one_more true true h = omega arith
one_more true false h = omega arith
one_more false true h = absurd (let e : false ≡ true = h refl in cc)
one_more false false h = omega arith

module _ (now : ℕ) (a b : Moments) (less : (k : ℕ) → is_due now (moment_of b k) ≡ true → is_due now (moment_of a k) ≡ true) where
  no_more : (ids : List DescId) → count_due now b ids ≤ count_due now a ids
  no_more [] = omega arith
  no_more (id ∷ ids) = omega (arith, one_more (is_due now (moment_of a id.0)) (is_due now (moment_of b id.0)) (less id.0), no_more ids)

  -- one that had come has another moment
  pub fewer_due : (key : ℕ) → is_due now (moment_of a key) ≡ true → is_due now (moment_of b key) ≡ false → (keys : List (Option ℕ)) (j i number : ℕ) → get_or keys i None ≡ Some number → key ≡ j + i
      → count_due now b (live_from j keys) < count_due now a (live_from j keys)
  fewer_due key was gone [] j i number there is = absurd (none-some number there)
  fewer_due key was gone (None ∷ rest) j zero number there is = absurd (none-some number there)
  fewer_due key was gone (None ∷ rest) j (suc i) number there is = fewer_due key was gone rest (j + 1) i number there (omega (arith, is))
  fewer_due key was gone (Some m ∷ rest) j zero number there is =
      let at : j ≡ key = omega (arith, is) in
      let one : bit (is_due now (moment_of a j)) ≡ 1 = ap bit (ap (λ (k : ℕ). is_due now (moment_of a k)) at ∙ was) in
      let nil : bit (is_due now (moment_of b j)) ≡ 0 = ap bit (ap (λ (k : ℕ). is_due now (moment_of b k)) at ∙ gone) in
      omega (arith, one, nil, no_more (live_from (j + 1) rest))
  fewer_due key was gone (Some m ∷ rest) j (suc i) number there is =
      omega (arith, one_more (is_due now (moment_of a j)) (is_due now (moment_of b j)) (less j), fewer_due key was gone rest (j + 1) i number there (omega (arith, is)))
