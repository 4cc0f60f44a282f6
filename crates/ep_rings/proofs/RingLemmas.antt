-- What a ring is after a join.
use Rattle.std.proofs.Common.{◌≡◌, ◌≢◌, ℕ, zero, suc, ◌+◌, ◌<◌, ◌≤◌, List, [], ◌∷◌, ◌++◌, length, get_or, drop, refl, sym, ap, ◌∙◌, inl, inr, arith, add-one}
use Rattle.std.specs.List.{remove}
use Rattle.std.proofs.lemmas.Bool.{cases_eq, cases_lt}
use Rattle.std.proofs.lemmas.List.{get_or_past, get_or_append_left, get_or_push, drop_more, drop_all, length_push}
use Rattle.std.proofs.lemmas.List.Edits.{length-remove, get_or-remove_below, get_or-remove_above}
use Rattle.ep_rings.specs.Ring.{IsRing, walk}

module _ (next prev : ℕ → ℕ) (head : ℕ) where
  pub walk_from : (xs : List ℕ) → IsRing next prev head xs → (n i : ℕ) → i + n ≡ length xs → walk next n (get_or xs i head) ≡ drop i xs
  walk_from xs r zero i e = sym (drop_all i xs (omega arith))
  walk_from xs r (suc n) i e =
      let step : next (get_or xs i head) ≡ get_or xs (suc i) head = r.nexts (suc i) (omega arith) in
      let more : drop i xs ≡ get_or xs i head ∷ drop (suc i) xs = rw add-one at (drop_more xs i head (omega arith)) in
      rw (more, step) (ap (λ ys. get_or xs i head ∷ ys) (walk_from xs r n (suc i) (omega arith)))

  pub walk-ring : (xs : List ℕ) → IsRing next prev head xs → walk next (length xs) (next head) ≡ xs
  walk-ring xs r = rw (r.nexts 0 (omega arith)) (walk_from xs r (length xs) 0 (omega arith))

module _ (next prev next' prev' : ℕ → ℕ) (head : ℕ) where
  -- a ring of which nothing was written
  pub ring_kept : (xs : List ℕ) → IsRing next prev head xs
      → ((i : ℕ) → i ≤ length xs → next' (get_or (head ∷ xs) i head) ≡ next (get_or (head ∷ xs) i head))
      → ((i : ℕ) → i ≤ length xs → prev' (get_or xs i head) ≡ prev (get_or xs i head))
      → IsRing next' prev' head xs
  ring_kept xs r n p = record {
    nexts = λ i le. n i le ∙ r.nexts i le;
    prevs = λ i le. p i le ∙ r.prevs i le;
    apart = r.apart;
  }

  -- the j-th was taken out
  pub ring_removed : (xs : List ℕ) (j a b : ℕ) → IsRing next prev head xs → j < length xs
      → a ≡ get_or (head ∷ xs) j head → b ≡ get_or xs (suc j) head
      → next' a ≡ b → prev' b ≡ a
      → ((k : ℕ) → k ≢ a → next' k ≡ next k) → ((k : ℕ) → k ≢ b → prev' k ≡ prev k)
      → IsRing next' prev' head (remove xs j)
  ring_removed xs j a b r lt ea eb na pb nk pk =
      let short = length-remove xs j lt in
      let P : ℕ → ℕ = λ i. get_or (head ∷ xs) i head in
      let low : (i : ℕ) → i < j → get_or (remove xs j) i head ≡ get_or xs i head = λ i l. get_or-remove_below xs j head i l lt in
      let high : (i : ℕ) → j ≤ i → get_or (remove xs j) i head ≡ get_or xs (suc i) head = λ i l. rw add-one at (get_or-remove_above xs j head i l lt) in
      let low' : (i : ℕ) → i ≤ j → get_or (head ∷ remove xs j) i head ≡ get_or (head ∷ xs) i head = shifted_low xs j lt in
      let high' : (i : ℕ) → j < i → get_or (head ∷ remove xs j) i head ≡ get_or (head ∷ xs) (suc i) head = shifted_high xs j lt in
      record {
        nexts = λ i le. elim (cases_lt i j) [
          | inl l ↦ rw (low' i (omega arith), low i l) (nk _ (λ e. r.apart i j l (omega arith) (e ∙ ea)) ∙ r.nexts i (omega arith))
          | inr g ↦ elim (cases_eq i j) [
            | inl e ↦ rw (low' i (omega arith), high i g) (ap (λ z. next' (get_or (head ∷ xs) z head)) e ∙ (ap next' (sym ea) ∙ (na ∙ (eb ∙ ap (λ z. get_or xs (suc z) head) (sym e)))))
            | inr d ↦ rw (high' i (omega (arith, d)), high i g) (nk _ (λ e. r.apart j (suc i) (omega arith) (omega arith) (sym ea ∙ sym e)) ∙ r.nexts (suc i) (omega arith))
          ]
        ];
        prevs = λ i le. elim (cases_lt i j) [
          | inl l ↦ rw (low' i (omega arith), low i l) (pk _ (λ e. prev_differs xs r (suc i) (suc (suc j)) (omega arith) (omega arith) (omega arith) (e ∙ eb)) ∙ r.prevs i (omega arith))
          | inr g ↦ elim (cases_eq i j) [
            | inl e ↦ rw (low' i (omega arith), high i g) (ap (λ z. prev' (get_or xs (suc z) head)) e ∙ (ap prev' (sym eb) ∙ (pb ∙ (ea ∙ ap (λ z. get_or (head ∷ xs) z head) (sym e)))))
            | inr d ↦ rw (high' i (omega (arith, d)), high i g) (pk _ (λ e. prev_differs xs r (suc (suc j)) (suc (suc i)) (omega arith) (omega (arith, d)) (omega arith) (sym eb ∙ sym e)) ∙ r.prevs (suc i) (omega arith))
          ]
        ];
        apart = λ i k before le. elim (cases_lt j i) [
          | inl l ↦ rw (high' i l, high' k (omega arith)) (r.apart (suc i) (suc k) (omega arith) (omega arith))
          | inr g ↦ elim (cases_lt j k) [
            | inl l ↦ rw (low' i g, high' k l) (r.apart i (suc k) (omega arith) (omega arith))
            | inr h ↦ rw (low' i g, low' k h) (r.apart i k before (omega arith))
          ]
        ];
      }
    where
      shifted_low : (xs : List ℕ) (j : ℕ) → j < length xs → (i : ℕ) → i ≤ j → get_or (head ∷ remove xs j) i head ≡ get_or (head ∷ xs) i head
      shifted_low xs j lt zero l = refl
      shifted_low xs j lt (suc i) l = get_or-remove_below xs j head i (omega arith) lt

      shifted_high : (xs : List ℕ) (j : ℕ) → j < length xs → (i : ℕ) → j < i → get_or (head ∷ remove xs j) i head ≡ get_or (head ∷ xs) (suc i) head
      shifted_high xs j lt zero l = absurd (omega arith)
      shifted_high xs j lt (suc i) l = rw add-one at (get_or-remove_above xs j head i (omega arith) lt)

      prev_differs : (xs : List ℕ) → IsRing next prev head xs → (i j : ℕ) → 0 < i → i < j → j ≤ suc (length xs) → get_or (head ∷ xs) i head ≢ get_or (head ∷ xs) j head
      prev_differs xs r i j pos l le = elim (cases_lt j (suc (length xs))) [
        | inl in_list ↦ r.apart i j l (omega arith)
        | inr past ↦ let out : get_or (head ∷ xs) j head ≡ head = get_or_past (head ∷ xs) j head past in rw out (λ e. r.apart 0 i pos (omega arith) (sym e))
      ]

  -- a key was put between the last and the head
  pub ring_pushed : (xs : List ℕ) (k last : ℕ) → IsRing next prev head xs
      → last ≡ get_or (head ∷ xs) (length xs) head
      → ((i : ℕ) → i ≤ length xs → get_or (head ∷ xs) i head ≢ k)
      → next' last ≡ k → next' k ≡ head → prev' k ≡ last → prev' head ≡ k
      → ((z : ℕ) → z ≢ last → z ≢ k → next' z ≡ next z) → ((z : ℕ) → z ≢ k → z ≢ head → prev' z ≡ prev z)
      → IsRing next' prev' head (xs ++ k ∷ [])
  ring_pushed xs k last r el fresh nl nk pk ph nk' pk' =
      let long = length_push xs k in
      let inner : (i : ℕ) → i < length xs → get_or (xs ++ k ∷ []) i head ≡ get_or xs i head = λ i l. get_or_append_left xs (k ∷ []) head i l in
      let inner' : (i : ℕ) → i ≤ length xs → get_or (head ∷ xs ++ k ∷ []) i head ≡ get_or (head ∷ xs) i head = λ i l. get_or_append_left (head ∷ xs) (k ∷ []) head i (omega arith) in
      let end : (i : ℕ) → i ≡ length xs → get_or (xs ++ k ∷ []) i head ≡ k = λ i e. get_or_push xs k head i (sym e) in
      let end' : (i : ℕ) → i ≡ suc (length xs) → get_or (head ∷ xs ++ k ∷ []) i head ≡ k = λ i e. get_or_push (head ∷ xs) k head i (sym e) in
      let out : (i : ℕ) → length xs < i → get_or (xs ++ k ∷ []) i head ≡ head = λ i l. get_or_past (xs ++ k ∷ []) i head (omega arith) in
      record {
        nexts = λ i le. elim (cases_lt i (length xs)) [
          | inl l ↦ rw (inner i l, inner' i (omega arith)) (nk' _ (λ e. r.apart i (length xs) l (omega arith) (e ∙ el)) (fresh i (omega arith)) ∙ r.nexts i (omega arith))
          | inr g ↦ elim (cases_eq i (length xs)) [
            | inl e ↦ rw (end i e, inner' i (omega arith)) (ap (λ z. next' (get_or (head ∷ xs) z head)) e ∙ (ap next' (sym el) ∙ nl))
            | inr d ↦ rw (out i (omega (arith, d)), end' i (omega (arith, d))) nk
          ]
        ];
        prevs = λ i le. elim (cases_lt i (length xs)) [
          | inl l ↦ rw (inner i l, inner' i (omega arith)) (pk' _ (fresh (suc i) (omega arith)) (λ e. r.apart 0 (suc i) (omega arith) (omega arith) (sym e)) ∙ r.prevs i (omega arith))
          | inr g ↦ elim (cases_eq i (length xs)) [
            | inl e ↦ rw (end i e, inner' i (omega arith)) (pk ∙ (el ∙ ap (λ z. get_or (head ∷ xs) z head) (sym e)))
            | inr d ↦ rw (out i (omega (arith, d)), end' i (omega (arith, d))) ph
          ]
        ];
        apart = λ i j before le. elim (cases_lt j (suc (length xs))) [
          | inl l ↦ rw (inner' i (omega arith), inner' j (omega arith)) (r.apart i j before (omega arith))
          | inr g ↦ rw (inner' i (omega arith), end' j (omega arith)) (fresh i (omega arith))
        ];
      }
