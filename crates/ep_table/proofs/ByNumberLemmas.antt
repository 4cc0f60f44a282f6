-- Things by their numbers.
use Rattle.std.proofs.Common.{◌≡◌, ◌≢◌, ℕ, zero, suc, ◌+◌, ◌<◌, List, [], ◌∷◌, ◌++◌, length, Option, Some, None, get_or, refl, ap, sym, ◌∙◌, arith, slice_set, inl, inr, ◌⊎◌}
use Rattle.std.proofs.lemmas.List.{get_or-set_same, get_or-set_other, get_or_past, length-set, ext_get_or}
use Rattle.std.proofs.lemmas.List.FromFn.{length-map-range_with_len, get_or-map-range_with_len, map-range_with_len_more}
use Rattle.ep_facts.proofs.NatFacts.{below_or, same_or_not, same_test, suc_same, test_apart, zero_suc}
use Rattle.ep_table.specs.ByNumber.{with_by, contents_by, One, NumberedBy}

module _ {T V : Type 0} (number : T → ℕ) (value : T → V) where
  one_rest : (x : Option T) (slots : List (Option T)) → One number (x ∷ slots) → One number slots
  one_rest x slots one j k d e h i n = suc_same j k (one (suc j) (suc k) d e h i n)

  pub with_found : (slots : List (Option T)) → One number slots → (k : ℕ) (d : T) → get_or slots k None ≡ Some d → with_by number value slots (number d) ≡ Some (value d)
  with_found [] one k d h = absurd cc
  with_found (None ∷ slots) one zero d h = absurd cc
  with_found (None ∷ slots) one (suc k) d h = with_found slots (one_rest None slots one) k d h
  with_found (Some x ∷ slots) one zero d h = let e : x ≡ d = cc in rw (same_test (number x) (number d) (ap (λ (y : T). (number y)) e)) (ap (λ (y : T). Some (value y)) e)
  with_found (Some x ∷ slots) one (suc k) d h = rw (test_apart (number x) (number d) (λ e. zero_suc k (one zero (suc k) x d refl h e))) (with_found slots (one_rest (Some x) slots one) k d h)

  pub with_none : (slots : List (Option T)) (n : ℕ) → ((k : ℕ) (d : T) → get_or slots k None ≡ Some d → (number d) ≢ n) → with_by number value slots n ≡ None
  with_none [] n h = refl
  with_none (None ∷ slots) n h = with_none slots n (λ k d e. h (suc k) d e)
  with_none (Some x ∷ slots) n h = rw (test_apart (number x) n (h zero x refl)) (with_none slots n (λ k d e. h (suc k) d e))

  -- the description with a number, or that there is none
  pub record Has (slots : List (Option T)) (n : ℕ) : Type 0 where
    pub key : ℕ
    pub it : T
    pub is : get_or slots key None ≡ Some it
    pub num : (number it) ≡ n

  has_cons : (x : Option T) (slots : List (Option T)) (n : ℕ) → Has slots n → Has (x ∷ slots) n
  has_cons x slots n h = record { key = suc h.key; it = h.it; is = h.is; num = h.num }

  abbrev pub Lacks : List (Option T) → ℕ → Type 0
  Lacks slots n = (k : ℕ) (d : T) → get_or slots k None ≡ Some d → (number d) ≢ n

  lacks_cons : (x : Option T) (slots : List (Option T)) (n : ℕ) → ((d : T) → x ≡ Some d → (number d) ≢ n) → Lacks slots n → Lacks (x ∷ slots) n
  lacks_cons x slots n a h zero d e = a d e
  lacks_cons x slots n a h (suc k) d e = h k d e

  pub has_or : (slots : List (Option T)) (n : ℕ) → Has slots n ⊎ Lacks slots n
  has_or [] n = inr (λ k d e. absurd cc)
  has_or (None ∷ slots) n = elim (has_or slots n) [ inl h ↦ inl (has_cons None slots n h) | inr l ↦ inr (lacks_cons None slots n (λ d e. absurd cc) l) ]
  has_or (Some x ∷ slots) n = elim (same_or_not (number x) n) [
    | inl e ↦ inl (record { key = zero; it = x; is = refl; num = e })
    | inr ne ↦ elim (has_or slots n) [ inl h ↦ inl (has_cons (Some x) slots n h) | inr l ↦ inr (lacks_cons (Some x) slots n (λ d e. let same : x ≡ d = cc in λ f. ne (ap (λ (y : T). (number y)) same ∙ f)) l) ]
  ]

  -- where both have the same under a number, they have the same object
  pub with_alike : (a b : List (Option T)) (n : ℕ) → One number a → One number b
      → ((k : ℕ) (d : T) → (number d) ≡ n → get_or a k None ≡ Some d → get_or b k None ≡ Some d)
      → ((k : ℕ) (d : T) → (number d) ≡ n → get_or b k None ≡ Some d → get_or a k None ≡ Some d)
      → with_by number value a n ≡ with_by number value b n
  with_alike a b n oa ob f g = elim (has_or a n) [
    | inl h ↦
        let x = with_found a oa h.key h.it h.is in let y = with_found b ob h.key h.it (f h.key h.it h.num h.is) in
        ap (λ (m : ℕ). with_by number value a m) (sym h.num) ∙ (x ∙ (sym y ∙ ap (λ (m : ℕ). with_by number value b m) h.num))
    | inr l ↦ with_none a n l ∙ sym (with_none b n (λ k d e m. l k d (g k d m e) m))
  ]

  pub same_contents : (a b : List (Option T)) (n : ℕ) → ((k : ℕ) → k < n → with_by number value a k ≡ with_by number value b k) → contents_by number value a n ≡ contents_by number value b n
  same_contents a b n h = ext_get_or None (contents_by number value a n) (contents_by number value b n) (length-map-range_with_len (with_by number value a) 0 n ∙ sym (length-map-range_with_len (with_by number value b) 0 n))
      (λ i lt. let lt' : i < n = omega (arith, lt, length-map-range_with_len (with_by number value a) 0 n) in
      get_or-map-range_with_len (with_by number value a) 0 n i i None lt' (omega arith) ∙ (h i lt' ∙ sym (get_or-map-range_with_len (with_by number value b) 0 n i i None lt' (omega arith))))

  -- what stands under a key stands under its number
  pub content_there : (slots : List (Option T)) (n : ℕ) → NumberedBy number slots n → (key : ℕ) (d : T) → get_or slots key None ≡ Some d → get_or (contents_by number value slots n) (number d) None ≡ Some (value d)
  content_there slots n num key d is = get_or-map-range_with_len (with_by number value slots) 0 n (number d) (number d) None (num.below key d is) (omega arith) ∙ with_found slots num.one key d is

  pub contents_length : (slots : List (Option T)) (n : ℕ) → length (contents_by number value slots n) ≡ n
  contents_length slots n = length-map-range_with_len (with_by number value slots) 0 n

  -- one more
  module _ (old new : List (Option T)) (key : ℕ) (d : T) (was : get_or old key None ≡ None) (here : get_or new key None ≡ Some d)
      (others : (k : ℕ) → k ≢ key → get_or new k None ≡ get_or old k None) (num : NumberedBy number old (number d)) where
    is_new : (k : ℕ) (e : T) → get_or new k None ≡ Some e → k ≡ key → e ≡ d
    is_new k e h at = let x = ap (λ (i : ℕ). get_or new i None) at in cc

    is_old : (k : ℕ) (e : T) → get_or new k None ≡ Some e → k ≢ key → get_or old k None ≡ Some e
    is_old k e h ne = sym (others k ne) ∙ h

    not_key : (k : ℕ) (e : T) → get_or old k None ≡ Some e → k ≢ key
    not_key k e h at = let x = ap (λ (i : ℕ). get_or old i None) at in absurd cc

    more_below : (k : ℕ) (e : T) → get_or new k None ≡ Some e → (number e) < (number d) + 1
    more_below k e h = elim (same_or_not k key) [
      | inl at ↦ let s = ap (λ (x : T). (number x)) (is_new k e h at) in omega (arith, s)
      | inr ne ↦ let l = num.below k e (is_old k e h ne) in omega (arith, l)
    ]

    more_one : One number new
    more_one j k e f h i n = elim (same_or_not j key) [
      | inl at ↦ elim (same_or_not k key) [
        | inl to ↦ at ∙ sym to
        | inr ne ↦ let l = num.below k f (is_old k f i ne) in let s = ap (λ (x : T). (number x)) (is_new j e h at) in absurd (omega (arith, l, s, n))
      ]
      | inr ne ↦ elim (same_or_not k key) [
        | inl to ↦ let l = num.below j e (is_old j e h ne) in let s = ap (λ (x : T). (number x)) (is_new k f i to) in absurd (omega (arith, l, s, n))
        | inr nk ↦ num.one j k e f (is_old j e h ne) (is_old k f i nk) n
      ]
    ]

    pub numbered_more : NumberedBy number new ((number d) + 1)
    numbered_more = record { below = more_below; one = more_one }

    alike_below : (n : ℕ) → n < (number d) → with_by number value new n ≡ with_by number value old n
    alike_below n lt = with_alike new old n more_one num.one
        (λ k e m h. is_old k e h (λ at. let s = ap (λ (x : T). (number x)) (is_new k e h at) in omega (arith, lt, m, s)))
        (λ k e m h. others k (not_key k e h) ∙ h)

    pub contents_more : contents_by number value new ((number d) + 1) ≡ contents_by number value old (number d) ++ Some (value d) ∷ []
    contents_more =
        let e = map-range_with_len_more (with_by number value new) 0 (number d) (number d) (omega arith) in
        let f = same_contents new old (number d) alike_below in
        let g = with_found new more_one key d here in
        e ∙ (λ i. f i ++ g i ∷ [])

  abbrev pub value_in : Option T → Option V
  value_in None = None
  value_in (Some t) = Some (value t)

  -- what stands under one key changes, and keeps its number or goes
  module _ (slots : List (Option T)) (key : ℕ) (d : T) (is : get_or slots key None ≡ Some d) (n : ℕ) (num : NumberedBy number slots n) (o : Option T) (same : (t : T) → o ≡ Some t → number t ≡ number d) where
    abbrev next : List (Option T)
    next = slice_set slots key o

    pub next_other : (k : ℕ) → k ≢ key → get_or next k None ≡ get_or slots k None
    next_other k ne = get_or-set_other slots key k o None ne

    within : key < length slots
    within = elim (below_or key (length slots)) [ inl l ↦ l | inr le ↦ absurd (let x = get_or_past slots key None le in cc) ]

    pub next_here : get_or next key None ≡ o
    next_here = get_or-set_same slots key o None within

    -- each was there, under its number
    record Was (k : ℕ) (e : T) : Type 0 where
      pub it : T
      pub was : get_or slots k None ≡ Some it
      pub alike : number it ≡ number e

    was_at : (k : ℕ) (e : T) → get_or next k None ≡ Some e → Was k e
    was_at k e h = elim (same_or_not k key) [
      | inl at ↦ record { it = d; was = ap (λ (i : ℕ). get_or slots i None) at ∙ is; alike = sym (same e (sym next_here ∙ (ap (λ (i : ℕ). get_or next i None) (sym at) ∙ h))) }
      | inr ne ↦ record { it = e; was = sym (next_other k ne) ∙ h; alike = refl }
    ]

    next_below : (k : ℕ) (e : T) → get_or next k None ≡ Some e → number e < n
    next_below k e h = let w = was_at k e h in let l = num.below k w.it w.was in omega (arith, l, w.alike)

    next_one : One number next
    next_one j k e f h i m = let w = was_at j e h in let x = was_at k f i in num.one j k w.it x.it w.was x.was (w.alike ∙ (m ∙ sym x.alike))

    pub numbered_next : NumberedBy number next n
    numbered_next = record { below = next_below; one = next_one }

    next_key : (k : ℕ) (e : T) (m : ℕ) → m ≢ number d → number e ≡ m → get_or next k None ≡ Some e → k ≢ key
    next_key k e m ne at h to = ne (sym at ∙ same e (sym next_here ∙ (ap (λ (i : ℕ). get_or next i None) (sym to) ∙ h)))

    slot_key : (k : ℕ) (e : T) (m : ℕ) → m ≢ number d → number e ≡ m → get_or slots k None ≡ Some e → k ≢ key
    slot_key k e m ne at h to = ne (sym at ∙ ap number (let y = ap (λ (i : ℕ). get_or slots i None) to in let z : e ≡ d = cc in z))

    next_alike : (m : ℕ) → m ≢ number d → with_by number value next m ≡ with_by number value slots m
    next_alike m ne = with_alike next slots m next_one num.one
        (λ k e at h. sym (next_other k (next_key k e m ne at h)) ∙ h)
        (λ k e at h. next_other k (slot_key k e m ne at h) ∙ h)

    next_none : o ≡ None → with_by number value next (number d) ≡ None
    next_none e = with_none next (number d) (λ k x h m. let w = was_at k x h in
        let at : k ≡ key = num.one k key w.it d w.was is (w.alike ∙ m) in
        let y = ap (λ (i : ℕ). get_or next i None) at in let z = next_here in absurd cc)

    next_some : (t : T) → o ≡ Some t → with_by number value next (number d) ≡ Some (value t)
    next_some t e = ap (λ (m : ℕ). with_by number value next m) (sym (same t e)) ∙ with_found next next_one key t (next_here ∙ e)

    next_is : (p : Option T) → o ≡ p → with_by number value next (number d) ≡ value_in p
    next_is None e = next_none e
    next_is (Some t) e = next_some t e

    next_at : (m : ℕ) → m < n → get_or (contents_by number value next n) m None ≡ get_or (slice_set (contents_by number value slots n) (number d) (value_in o)) m None
    next_at m lt =
        let a = get_or-map-range_with_len (with_by number value next) 0 n m m None lt (omega arith) in
        let b = get_or-map-range_with_len (with_by number value slots) 0 n m m None lt (omega arith) in
        elim (same_or_not m (number d)) [
          | inl e ↦ a ∙ (ap (with_by number value next) e ∙ (next_is o refl ∙ sym (ap (λ (i : ℕ). get_or (slice_set (contents_by number value slots n) (number d) (value_in o)) i None) e ∙ get_or-set_same (contents_by number value slots n) (number d) (value_in o) None (omega (arith, length-map-range_with_len (with_by number value slots) 0 n, lt, e)))))
          | inr ne ↦ a ∙ (next_alike m ne ∙ (sym b ∙ sym (get_or-set_other (contents_by number value slots n) (number d) m (value_in o) None ne)))
        ]

    pub contents_next : contents_by number value next n ≡ slice_set (contents_by number value slots n) (number d) (value_in o)
    contents_next =
        let la = length-map-range_with_len (with_by number value next) 0 n in
        ext_get_or None (contents_by number value next n) (slice_set (contents_by number value slots n) (number d) (value_in o))
        (la ∙ sym (length-set (contents_by number value slots n) (number d) (value_in o) ∙ length-map-range_with_len (with_by number value slots) 0 n))
        (λ i lt. next_at i (omega (arith, lt, la)))
