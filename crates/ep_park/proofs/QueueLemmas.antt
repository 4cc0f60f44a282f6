-- The turns, tickets and places of a queue as it changes.
use Rattle.std.proofs.Common.{◌≡◌, ℕ, Bool, true, false, cond, ◌==◌, ◌≤◌, ◌<◌, List, [], ◌∷◌, ◌++◌, Option, Some, None, IsSome, MatchOption, is_some, refl, sym, ap, subst, ◌∙◌, inl, inr, nat_eq, eqb, arith}
use Rattle.std.proofs.lemmas.Bool.{eq-eqb}
use Rattle.std.proofs.lemmas.Bool.Decides.{eqb_tells}
use Rattle.std.proofs.lemmas.Cmp.{ranked}
use Rattle.std.proofs.lemmas.List.{map-append}
use Rattle.std.proofs.lemmas.Map.Keys.{sorted_head, sorted_tail}
use Rattle.std.specs.BTreeMap.{insert_entry, is_at}
use Rattle.std.specs.List.{AllByRecursion, IsDistinct}
use Rattle.std.specs.List.Sorted.{IsStrictlySortedBy}
use Rattle.std.specs.Map.{keys_of, lookup, remove_entry, set_value}
use Rattle.std.specs.Option.{option_map}
use Rattle.std.specs.Ordering.{is_eq, nat_cmp}
use Rattle.std.specs.declared.cmp.Ordering.TheVariants.{Less}
use Rattle.ep_facts.proofs.NatFacts.{test_turned}
use Rattle.ep_base.specs.declared.ids.CallerId.{CallerId}
use Rattle.ep_park.proofs.PlaceLemmas.{cmp_below, key_test, other_place, own_place}
use Rattle.ep_park.proofs.ViewLemmas.{either}
use Rattle.ep_park.specs.Queue.{HasNoPlace, HavePlaces, HaveTickets, IsFirstPlace, IsQueue, IsTurnOf, caller_at, caller_under, in_turn, marked_in, place_at, place_cmp}
use Rattle.ep_park.specs.Tallies.{first_at}
use Rattle.ep_park.specs.Waiters.{listed}
use Rattle.ep_park.specs.declared.place.Place.{Place}
use Rattle.ep_park.specs.declared.turn.Turn.{Turn}
use Rattle.ep_park.specs.declared.waiter.Waiter.{Waiter}

-- the test by which the map of turns finds a ticket
pub ticket_test : (t : ℕ) → (λ k. is_eq (nat_cmp t k)) ≡ nat_eq t
ticket_test t = λ j. λ k. key_test t k j

below : (k t : ℕ) → nat_cmp k t ≡ Less → k < t
below k t l = ranked k t Less (sym l)

abbrev AreAbove : ℕ → List (ℕ × Turn) → Type 0
AreAbove k ts = AllByRecursion (λ y. nat_cmp k y ≡ Less) (keys_of ts)

abbrev Have : List (ℕ × Turn) → List (ℕ × ℕ) → Type 0
Have ts ks = AllByRecursion (λ e. lookup (nat_eq e.1.caller.0) ks ≡ Some e.0) ts

above_found : (k t : ℕ) (ts : List (ℕ × Turn)) (p : Turn) → AreAbove k ts → lookup (nat_eq t) ts ≡ Some p → k < t
above_found k t [] p above at = absurd (cc)
above_found k t (e ∷ ts) p above at = elim (eqb_tells t e.0) [
  | inl y ↦ let l = below k e.0 above.0 in let same = y.1 in omega (arith, l, same)
  | inr n ↦ let rest : lookup (nat_eq t) ts ≡ Some p = rw n.0 at at in above_found k t ts p above.1 rest
]

within_found : (last t : ℕ) (ts : List (ℕ × Turn)) (p : Turn) → AllByRecursion (λ k. k ≤ last) (keys_of ts) → lookup (nat_eq t) ts ≡ Some p → t ≤ last
within_found last t [] p within at = absurd (cc)
within_found last t (e ∷ ts) p within at = elim (eqb_tells t e.0) [
  | inl y ↦ let l = within.0 in let same = y.1 in omega (arith, l, same)
  | inr n ↦ let rest : lookup (nat_eq t) ts ≡ Some p = rw n.0 at at in within_found last t ts p within.1 rest
]

pub next_is_new : (last t : ℕ) (ts : List (ℕ × Turn)) → AllByRecursion (λ k. k ≤ last) (keys_of ts) → last < t → lookup (nat_eq t) ts ≡ None
next_is_new last t [] within lt = refl
next_is_new last t (e ∷ ts) within lt =
    let l = within.0 in
    let off : eqb t e.0 ≡ false = elim (eqb_tells t e.0) [ inl y ↦ let same = y.1 in absurd (omega (arith, l, lt, same)) | inr n ↦ n.0 ] in
    rw off (next_is_new last t ts within.1 lt)

-- A caller's own ticket.
same_ticket : (ks : List (ℕ × ℕ)) (c d t u : ℕ) → lookup (nat_eq c) ks ≡ Some t → lookup (nat_eq d) ks ≡ Some u → c ≡ d → t ≡ u
same_ticket ks c d t u a b is = let e : Some t ≡ Some u = sym a ∙ (ap (λ n. lookup (nat_eq n) ks) is ∙ b) in cc

-- two turns have the same ticket where they have the same caller
record AtHead (e : ℕ × Turn) (c t : ℕ) : Type 0 where
  own : eqb c e.1.caller.0 ≡ eqb t e.0

head_tests : (ks : List (ℕ × ℕ)) (ts : List (ℕ × Turn)) (e : ℕ × Turn) (c t : ℕ) (p : Turn) → lookup (nat_eq e.1.caller.0) ks ≡ Some e.0 → lookup (nat_eq c) ks ≡ Some t → lookup (nat_eq t) (e ∷ ts) ≡ Some p → p.caller.0 ≡ c → eqb c e.1.caller.0 ≡ eqb t e.0
head_tests ks ts e c t p its has at own = elim (eqb_tells c e.1.caller.0) [
  | inl q ↦ q.0 ∙ sym (eq-eqb t e.0 (same_ticket ks c e.1.caller.0 t e.0 has its q.1))
  | inr q ↦ q.0 ∙ sym (elim (eqb_tells t e.0) [
    | inl y ↦
        let here : Some e.1 ≡ Some p = rw y.0 at at in
        let turn : e.1 ≡ p = cc in
        absurd (q.1 (sym own ∙ ap (λ (u : Turn). u.caller.0) (sym turn)))
    | inr n ↦ n.0
  ])
]

pub found_turn : (ks : List (ℕ × ℕ)) (ts : List (ℕ × Turn)) (c t : ℕ) (p : Turn) → Have ts ks → lookup (nat_eq c) ks ≡ Some t → lookup (nat_eq t) ts ≡ Some p → p.caller.0 ≡ c → lookup (nat_eq c) (in_turn ts) ≡ Some p.waiter
found_turn ks [] c t p have has at own = absurd (cc)
found_turn ks (e ∷ ts) c t p have has at own =
    let test = head_tests ks ts e c t p have.0 has at own in
    elim (eqb_tells t e.0) [
      | inl y ↦
          let here : Some e.1 ≡ Some p = rw y.0 at at in
          let turn : e.1 ≡ p = cc in
          rw (test, y.0) (ap (λ (u : Turn). Some u.waiter) turn)
      | inr n ↦
          let rest : lookup (nat_eq t) ts ≡ Some p = rw n.0 at at in
          rw (test, n.0) (found_turn ks ts c t p have.1 has rest own)
    ]

pub found_none : (ks : List (ℕ × ℕ)) (ts : List (ℕ × Turn)) (c : ℕ) → Have ts ks → lookup (nat_eq c) ks ≡ None → lookup (nat_eq c) (in_turn ts) ≡ None
found_none ks [] c have none = refl
found_none ks (e ∷ ts) c have none = elim (eqb_tells c e.1.caller.0) [
  | inl q ↦ let bad : None ≡ Some e.0 = sym none ∙ (ap (λ n. lookup (nat_eq n) ks) q.1 ∙ have.0) in absurd (cc)
  | inr q ↦ rw q.0 (found_none ks ts c have.1 none)
]

-- a caller that is among them has a ticket
pub has_ticket : (ks : List (ℕ × ℕ)) (ts : List (ℕ × Turn)) (c : ℕ) → Have ts ks → IsSome (lookup (nat_eq c) (in_turn ts)) → IsSome (lookup (nat_eq c) ks)
has_ticket ks ts c have some = by (lookup (nat_eq c) ks) refl
  where
    by : (o : Option ℕ) → lookup (nat_eq c) ks ≡ o → IsSome (lookup (nat_eq c) ks)
    by None is = absurd (let none = found_none ks ts c have is in let bad = sym (ap is_some none) ∙ some in cc)
    by (Some t) is = ap is_some is

pub no_ticket : (ks : List (ℕ × ℕ)) (ts : List (ℕ × Turn)) (c : ℕ) → HaveTickets ts ks → lookup (nat_eq c) (in_turn ts) ≡ None → lookup (nat_eq c) ks ≡ None
no_ticket ks ts c h none = by (lookup (nat_eq c) ks) refl
  where
    by : (o : Option ℕ) → lookup (nat_eq c) ks ≡ o → lookup (nat_eq c) ks ≡ None
    by None is = is
    by (Some t) is =
        let turn = h.there c t is in
        let bad = sym none ∙ found_turn ks ts c t turn.turn h.each is turn.found turn.own in
        absurd (cc)

pub callers_apart : (ks : List (ℕ × ℕ)) (ts : List (ℕ × Turn)) → Have ts ks → IsStrictlySortedBy nat_cmp (keys_of ts) → IsDistinct nat_eq (keys_of (in_turn ts))
unfolding IsDistinct
callers_apart ks [] have rise = tt
callers_apart ks (e ∷ ts) have rise =
    (apart e.1.caller.0 e.0 ts have.0 have.1 (sorted_head nat_cmp e.0 (keys_of ts) rise), callers_apart ks ts have.1 (sorted_tail nat_cmp e.0 (keys_of ts) rise))
  where
    apart : (c k : ℕ) (ts : List (ℕ × Turn)) → lookup (nat_eq c) ks ≡ Some k → Have ts ks → AreAbove k ts → AllByRecursion (λ y. nat_eq c y ≡ false) (keys_of (in_turn ts))
    apart c k [] has have above = tt
    apart c k (e ∷ ts) has have above = (
      elim (eqb_tells c e.1.caller.0) [
        | inl q ↦ let l = below k e.0 above.0 in let same = same_ticket ks c e.1.caller.0 k e.0 has have.0 q.1 in absurd (omega (arith, l, same))
        | inr q ↦ q.0
      ],
      apart c k ts has have.1 above.1,
    )

-- by the test of the map of turns
pub at_ticket : (t : ℕ) (ts : List (ℕ × Turn)) → lookup (is_at (nat_cmp t)) ts ≡ lookup (nat_eq t) ts
at_ticket t ts = ap (λ (f : ℕ → Bool). lookup f ts) (ticket_test t)

pub own_turn : (ks : List (ℕ × ℕ)) (ts : List (ℕ × Turn)) (c t : ℕ) (p : Turn) → HaveTickets ts ks → lookup (nat_eq c) ks ≡ Some t → lookup (nat_eq t) ts ≡ Some p → p.caller.0 ≡ c
own_turn ks ts c t p h has at =
    let turn = h.there c t has in
    let both : Some p ≡ Some turn.turn = sym at ∙ turn.found in
    let same : p ≡ turn.turn = cc in
    ap (λ (u : Turn). u.caller.0) same ∙ turn.own

pub turn_there : (ks : List (ℕ × ℕ)) (ts : List (ℕ × Turn)) (c t : ℕ) → HaveTickets ts ks → lookup (nat_eq c) ks ≡ Some t → IsSome (lookup (is_at (nat_cmp t)) ts)
turn_there ks ts c t h has = ap is_some (at_ticket t ts ∙ (h.there c t has).found)

pub turn_found : (ks : List (ℕ × ℕ)) (ts : List (ℕ × Turn)) (c t : ℕ) (p : Turn) → HaveTickets ts ks → lookup (nat_eq c) ks ≡ Some t → lookup (nat_eq t) ts ≡ Some p → Some p.waiter ≡ lookup (nat_eq c) (in_turn ts)
turn_found ks ts c t p h has at = sym (found_turn ks ts c t p h.each has at (own_turn ks ts c t p h has at))

-- a look-up in the map of turns after a removal, by number
pub less_by_number : (t : ℕ) (ts ts' : List (ℕ × Turn)) → ((q : ℕ) → lookup (is_at (nat_cmp q)) ts' ≡ cond (is_at (nat_cmp t) q) None (lookup (is_at (nat_cmp q)) ts)) → (q : ℕ) → lookup (nat_eq q) ts' ≡ cond (nat_eq t q) None (lookup (nat_eq q) ts)
less_by_number t ts ts' u q = sym (at_ticket q ts') ∙ (u q ∙ (λ j. cond (key_test t q j) None (at_ticket q ts j)))

-- A turn more.
pub put_last : (last t : ℕ) (p : Turn) (ts : List (ℕ × Turn)) → AllByRecursion (λ k. k ≤ last) (keys_of ts) → last < t → insert_entry nat_cmp ts t p ≡ ts ++ (t, p) ∷ []
put_last last t p [] within lt = refl
put_last last t p (e ∷ ts) within lt =
    let l = within.0 in
    let after = cmp_below e.0 t (omega (arith, l, lt)) in
    rw after (ap (λ xs. e ∷ xs) (put_last last t p ts within.1 lt))

last_own : (t : ℕ) (p : Turn) (ts : List (ℕ × Turn)) → lookup (nat_eq t) ts ≡ None → lookup (nat_eq t) (ts ++ (t, p) ∷ []) ≡ Some p
last_own t p [] none = let yes : eqb t t ≡ true = eq-eqb t t refl in rw yes refl
last_own t p (e ∷ ts) none = elim (eqb_tells t e.0) [
  | inl y ↦ let bad : Some e.1 ≡ None = rw y.0 at none in absurd (cc)
  | inr n ↦ let rest : lookup (nat_eq t) ts ≡ None = rw n.0 at none in rw n.0 (last_own t p ts rest)
]

last_other : (t m : ℕ) (p : Turn) (ts : List (ℕ × Turn)) → eqb m t ≡ false → lookup (nat_eq m) (ts ++ (t, p) ∷ []) ≡ lookup (nat_eq m) ts
last_other t m p [] off = rw off refl
last_other t m p (e ∷ ts) off = elim (eqb_tells m e.0) [
  | inl y ↦ rw y.0 refl
  | inr n ↦ rw n.0 (last_other t m p ts off)
]

-- one that was put last and is taken out again
pub put_back : (t : ℕ) (p : Turn) (ts : List (ℕ × Turn)) → lookup (nat_eq t) ts ≡ None → remove_entry (nat_eq t) (ts ++ (t, p) ∷ []) ≡ ts
put_back t p [] none = let yes : eqb t t ≡ true = eq-eqb t t refl in rw yes refl
put_back t p (e ∷ ts) none = elim (eqb_tells t e.0) [
  | inl y ↦ let bad : Some e.1 ≡ None = rw y.0 at none in absurd (cc)
  | inr n ↦ let rest : lookup (nat_eq t) ts ≡ None = rw n.0 at none in rw n.0 (ap (λ xs. e ∷ xs) (put_back t p ts rest))
]

-- what a table says of one key, and of the others what it said
abbrev Sets : List (ℕ × ℕ) → List (ℕ × ℕ) → ℕ → Option ℕ → Type 0
Sets old new c x = (q : ℕ) → lookup (nat_eq q) new ≡ cond (nat_eq c q) x (lookup (nat_eq q) old)

abbrev SetsPlace : List (Place × CallerId) → List (Place × CallerId) → Place → Option CallerId → Type 0
SetsPlace old new p x = (q : Place) → lookup (is_at (place_cmp q)) new ≡ cond (is_eq (place_cmp p q)) x (lookup (is_at (place_cmp q)) old)

within_last : (last t : ℕ) (p : Turn) (ts : List (ℕ × Turn)) → AllByRecursion (λ k. k ≤ last) (keys_of ts) → last ≤ t → AllByRecursion (λ k. k ≤ t) (keys_of (ts ++ (t, p) ∷ []))
within_last last t p [] within le = (omega arith, tt)
within_last last t p (e ∷ ts) within le = (let l = within.0 in omega (arith, l, le), within_last last t p ts within.1 le)

module _ (ks ks' : List (ℕ × ℕ)) (c t : ℕ) where
  -- a ticket of another caller
  kept_ticket : (x : Option ℕ) → Sets ks ks' c x → (d k : ℕ) → lookup (nat_eq d) ks ≡ Some k → (c ≡ d → ⊥) → lookup (nat_eq d) ks' ≡ Some k
  kept_ticket x sets d k has other = sets d ∙ elim (eqb_tells c d) [ inl y ↦ absurd (other y.1) | inr n ↦ rw n.0 has ]

  have_last : (p : Turn) (ts : List (ℕ × Turn)) → p.caller.0 ≡ c → lookup (nat_eq c) ks ≡ None → Sets ks ks' c (Some t) → Have ts ks → Have (ts ++ (t, p) ∷ []) ks'
  have_last p [] own none sets have = (ap (λ n. lookup (nat_eq n) ks') own ∙ (sets c ∙ (let yes : eqb c c ≡ true = eq-eqb c c refl in rw yes refl)), tt)
  have_last p (e ∷ ts) own none sets have = (
    kept_ticket (Some t) sets e.1.caller.0 e.0 have.0 (λ is. let bad : None ≡ Some e.0 = sym none ∙ (ap (λ n. lookup (nat_eq n) ks) is ∙ have.0) in cc),
    have_last p ts own none sets have.1,
  )

  -- the tickets after a turn more
  tickets_last : (p : Turn) (ts : List (ℕ × Turn)) → p.caller.0 ≡ c → lookup (nat_eq c) ks ≡ None → lookup (nat_eq t) ts ≡ None → Sets ks ks' c (Some t) → HaveTickets ts ks → HaveTickets (ts ++ (t, p) ∷ []) ks'
  tickets_last p ts own none new sets h = record {
    each = have_last p ts own none sets h.each;
    there = λ d k has. elim (eqb_tells c d) [
      | inl y ↦
          let is : Some t ≡ Some k = sym (rw y.0 at (sets d)) ∙ has in
          let same : t ≡ k = cc in
          record { turn = p; found = ap (λ n. lookup (nat_eq n) (ts ++ (t, p) ∷ [])) (sym same) ∙ last_own t p ts new; own = own ∙ y.1 }
      | inr n ↦
          let was = h.there d k (sym (rw n.0 at (sets d)) ∙ has) in
          let off : eqb k t ≡ false = elim (eqb_tells k t) [
            | inl y ↦ let bad : None ≡ Some was.turn = sym new ∙ (ap (λ m. lookup (nat_eq m) ts) (sym y.1) ∙ was.found) in absurd (cc)
            | inr m ↦ m.0
          ] in
          record { turn = was.turn; found = last_other t k p ts off ∙ was.found; own = was.own }
    ];
  }

  -- the tickets after a turn less
  have_above : (ts : List (ℕ × Turn)) → AreAbove t ts → lookup (nat_eq c) ks ≡ Some t → Sets ks ks' c None → Have ts ks → Have ts ks'
  have_above [] above has sets have = tt
  have_above (e ∷ ts) above has sets have = (
    kept_ticket None sets e.1.caller.0 e.0 have.0 (λ is. let same = same_ticket ks c e.1.caller.0 t e.0 has have.0 is in let l = below t e.0 above.0 in absurd (omega (arith, same, l))),
    have_above ts above.1 has sets have.1,
  )

  have_less : (p : Turn) (ts : List (ℕ × Turn)) → IsStrictlySortedBy nat_cmp (keys_of ts) → p.caller.0 ≡ c → lookup (nat_eq c) ks ≡ Some t → lookup (nat_eq t) ts ≡ Some p → Sets ks ks' c None → Have ts ks → Have (remove_entry (nat_eq t) ts) ks'
  have_less p [] rise own has at sets have = tt
  have_less p (e ∷ ts) rise own has at sets have = elim (eqb_tells t e.0) [
    | inl y ↦
        let above = subst (λ (n : ℕ). AreAbove n ts) (sym y.1) (sorted_head nat_cmp e.0 (keys_of ts) rise) in
        rw y.0 (have_above ts above has sets have.1)
    | inr n ↦
        let rest : lookup (nat_eq t) ts ≡ Some p = rw n.0 at at in
        rw n.0 (
          kept_ticket None sets e.1.caller.0 e.0 have.0 (λ is. n.1 (same_ticket ks c e.1.caller.0 t e.0 has have.0 is)),
          have_less p ts (sorted_tail nat_cmp e.0 (keys_of ts) rise) own has rest sets have.1,
        )
  ]

  tickets_less : (p : Turn) (ts ts' : List (ℕ × Turn)) → ts' ≡ remove_entry (nat_eq t) ts → ((q : ℕ) → eqb t q ≡ false → lookup (nat_eq q) ts' ≡ lookup (nat_eq q) ts) → IsStrictlySortedBy nat_cmp (keys_of ts)
      → p.caller.0 ≡ c → lookup (nat_eq c) ks ≡ Some t → lookup (nat_eq t) ts ≡ Some p → Sets ks ks' c None → HaveTickets ts ks → HaveTickets ts' ks'
  tickets_less p ts ts' is others rise own has at sets h = record {
    each = subst (λ (xs : List (ℕ × Turn)). Have xs ks') (sym is) (have_less p ts rise own has at sets h.each);
    there = λ d k its. elim (eqb_tells c d) [
      | inl y ↦ let bad : None ≡ Some k = sym (rw y.0 at (sets d)) ∙ its in absurd (cc)
      | inr n ↦
          let was = h.there d k (sym (rw n.0 at (sets d)) ∙ its) in
          let off : eqb t k ≡ false = elim (eqb_tells t k) [
            | inl y ↦
                let turns : Some p ≡ Some was.turn = sym at ∙ (ap (λ m. lookup (nat_eq m) ts) y.1 ∙ was.found) in
                let turn : p ≡ was.turn = cc in
                absurd (n.1 (sym own ∙ (ap (λ (u : Turn). u.caller.0) turn ∙ was.own)))
            | inr m ↦ m.0
          ] in
          record { turn = was.turn; found = others k off ∙ was.found; own = was.own }
    ];
  }

-- the places after a turn more
pub places_last : (t : ℕ) (p : Turn) (ts : List (ℕ × Turn)) (ps ps' : List (Place × CallerId)) → lookup (nat_eq t) ts ≡ None → SetsPlace ps ps' (place_at p.waiter.instance.0 t) (Some p.caller) → HavePlaces ts ps → HavePlaces (ts ++ (t, p) ∷ []) ps'
places_last t p ts ps ps' new sets h = record { at = λ e m. sets (place_at e m) ∙ both e m }
  where
    both : (e m : ℕ) → cond (is_eq (place_cmp (place_at p.waiter.instance.0 t) (place_at e m))) (Some p.caller) (caller_under ps e m) ≡ caller_at e (lookup (nat_eq m) (ts ++ (t, p) ∷ []))
    both e m = elim (eqb_tells m t) [
      | inl y ↦
          let here : lookup (nat_eq m) (ts ++ (t, p) ∷ []) ≡ Some p = ap (λ n. lookup (nat_eq n) (ts ++ (t, p) ∷ [])) y.1 ∙ last_own t p ts new in
          let was : caller_under ps e m ≡ None = h.at e m ∙ ap (caller_at e) (ap (λ n. lookup (nat_eq n) ts) y.1 ∙ new) in
          elim (eqb_tells p.waiter.instance.0 e) [
            | inl z ↦
                let same : place_at p.waiter.instance.0 t ≡ place_at e m = λ j. place_at (z.1 j) (sym y.1 j) in
                let yes : is_eq (place_cmp (place_at p.waiter.instance.0 t) (place_at e m)) ≡ true = ap (λ (q : Place). is_eq (place_cmp q (place_at e m))) same ∙ own_place (place_at e m) in
                rw (yes, here, z.0) refl
            | inr z ↦
                let no = other_place (place_at p.waiter.instance.0 t) (place_at e m) (λ i _. z.1 i) in
                rw (no, here, z.0) was
          ]
      | inr n ↦
          let no = other_place (place_at p.waiter.instance.0 t) (place_at e m) (λ _ i. n.1 (sym i)) in
          rw no (h.at e m ∙ ap (caller_at e) (sym (last_other t m p ts n.0)))
    ]

-- the places after a turn less
pub places_less : (t : ℕ) (p : Turn) (ts ts' : List (ℕ × Turn)) (ps ps' : List (Place × CallerId)) → lookup (nat_eq t) ts ≡ Some p → lookup (nat_eq t) ts' ≡ None → ((q : ℕ) → eqb t q ≡ false → lookup (nat_eq q) ts' ≡ lookup (nat_eq q) ts)
    → SetsPlace ps ps' (place_at p.waiter.instance.0 t) None → HavePlaces ts ps → HavePlaces ts' ps'
places_less t p ts ts' ps ps' had gone others sets h = record { at = λ e m. sets (place_at e m) ∙ both e m }
  where
    both : (e m : ℕ) → cond (is_eq (place_cmp (place_at p.waiter.instance.0 t) (place_at e m))) None (caller_under ps e m) ≡ caller_at e (lookup (nat_eq m) ts')
    both e m = elim (eqb_tells t m) [
      | inl y ↦
          let none : lookup (nat_eq m) ts' ≡ None = ap (λ n. lookup (nat_eq n) ts') (sym y.1) ∙ gone in
          let was : caller_under ps e m ≡ caller_at e (Some p) = h.at e m ∙ ap (caller_at e) (ap (λ n. lookup (nat_eq n) ts) (sym y.1) ∙ had) in
          elim (eqb_tells p.waiter.instance.0 e) [
            | inl z ↦
                let same : place_at p.waiter.instance.0 t ≡ place_at e m = λ j. place_at (z.1 j) (y.1 j) in
                let yes : is_eq (place_cmp (place_at p.waiter.instance.0 t) (place_at e m)) ≡ true = ap (λ (q : Place). is_eq (place_cmp q (place_at e m))) same ∙ own_place (place_at e m) in
                rw (yes, none) refl
            | inr z ↦
                let no = other_place (place_at p.waiter.instance.0 t) (place_at e m) (λ i _. z.1 i) in
                let off : caller_under ps e m ≡ None = rw z.0 at was in
                rw (no, none) off
          ]
      | inr n ↦
          let no = other_place (place_at p.waiter.instance.0 t) (place_at e m) (λ _ i. n.1 i) in
          rw no (h.at e m ∙ ap (caller_at e) (sym (others m n.0)))
    ]

pub pushed : (ts ts' : List (ℕ × Turn)) (ks ks' : List (ℕ × ℕ)) (ps ps' : List (Place × CallerId)) (last t c : ℕ) (p : Turn) → IsQueue ts ks ps last → last < t → p.caller.0 ≡ c → lookup (nat_eq c) (in_turn ts) ≡ None
    → ts' ≡ insert_entry nat_cmp ts t p → IsStrictlySortedBy nat_cmp (keys_of ts') → Sets ks ks' c (Some t) → SetsPlace ps ps' (place_at p.waiter.instance.0 t) (Some p.caller) → IsQueue ts' ks' ps' t
pushed ts ts' ks ks' ps ps' last t c p h lt own none is rise tickets places =
    let at_end : ts' ≡ ts ++ (t, p) ∷ [] = is ∙ put_last last t p ts h.numbered.within lt in
    let new = next_is_new last t ts h.numbered.within lt in
    record {
      numbered = record { rise = rise; within = subst (λ (xs : List (ℕ × Turn)). AllByRecursion (λ k. k ≤ t) (keys_of xs)) (sym at_end) (within_last last t p ts h.numbered.within (omega (arith, lt))) };
      ticketed = subst (λ (xs : List (ℕ × Turn)). HaveTickets xs ks') (sym at_end) (tickets_last ks ks' c t p ts own (no_ticket ks ts c h.ticketed none) new tickets h.ticketed);
      placed = subst (λ (xs : List (ℕ × Turn)). HavePlaces xs ps') (sym at_end) (places_last t p ts ps ps' new places h.placed);
    }

pub pushed_view : (ts : List (ℕ × Turn)) (last t : ℕ) (p : Turn) → AllByRecursion (λ k. k ≤ last) (keys_of ts) → last < t → in_turn (insert_entry nat_cmp ts t p) ≡ in_turn ts ++ (p.caller.0, p.waiter) ∷ []
pushed_view ts last t p within lt = ap in_turn (put_last last t p ts within lt) ∙ map-append (λ (e : ℕ × Turn). (e.1.caller.0, e.1.waiter)) ts ((t, p) ∷ [])

within_less : (last t : ℕ) (ts : List (ℕ × Turn)) → AllByRecursion (λ k. k ≤ last) (keys_of ts) → AllByRecursion (λ k. k ≤ last) (keys_of (remove_entry (nat_eq t) ts))
within_less last t [] within = tt
within_less last t (e ∷ ts) within = elim (eqb_tells t e.0) [ inl y ↦ rw y.0 within.1 | inr n ↦ rw n.0 (within.0, within_less last t ts within.1) ]

pub removed_view : (ks : List (ℕ × ℕ)) (ts : List (ℕ × Turn)) (c t : ℕ) (p : Turn) → Have ts ks → lookup (nat_eq c) ks ≡ Some t → lookup (nat_eq t) ts ≡ Some p → p.caller.0 ≡ c → in_turn (remove_entry (nat_eq t) ts) ≡ remove_entry (nat_eq c) (in_turn ts)
removed_view ks [] c t p have has at own = refl
removed_view ks (e ∷ ts) c t p have has at own =
    let test = head_tests ks ts e c t p have.0 has at own in
    elim (eqb_tells t e.0) [
      | inl y ↦ rw (test, y.0) refl
      | inr n ↦
          let rest : lookup (nat_eq t) ts ≡ Some p = rw n.0 at at in
          rw (test, n.0) (ap (λ xs. (e.1.caller.0, e.1.waiter) ∷ xs) (removed_view ks ts c t p have.1 has rest own))
    ]

pub none_removed : (c : ℕ) (es : List (ℕ × Waiter)) → lookup (nat_eq c) es ≡ None → es ≡ remove_entry (nat_eq c) es
none_removed c [] none = refl
none_removed c (e ∷ es) none = elim (eqb_tells c e.0) [
  | inl y ↦ let bad : Some e.1 ≡ None = rw y.0 at none in absurd (cc)
  | inr n ↦ let rest : lookup (nat_eq c) es ≡ None = rw n.0 at none in rw n.0 (ap (λ xs. e ∷ xs) (none_removed c es rest))
]

pub removed : (ts ts' : List (ℕ × Turn)) (ks ks' : List (ℕ × ℕ)) (ps ps' : List (Place × CallerId)) (last c t : ℕ) (p : Turn) → IsQueue ts ks ps last → lookup (nat_eq c) ks ≡ Some t → lookup (nat_eq t) ts ≡ Some p → p.caller.0 ≡ c
    → ts' ≡ remove_entry (nat_eq t) ts → ((q : ℕ) → lookup (nat_eq q) ts' ≡ cond (nat_eq t q) None (lookup (nat_eq q) ts)) → IsStrictlySortedBy nat_cmp (keys_of ts')
    → Sets ks ks' c None → SetsPlace ps ps' (place_at p.waiter.instance.0 t) None → IsQueue ts' ks' ps' last
removed ts ts' ks ks' ps ps' last c t p h has at own is turns rise tickets places =
    let others = λ (q : ℕ) (off : eqb t q ≡ false). let same : lookup (nat_eq q) ts' ≡ lookup (nat_eq q) ts = rw off at (turns q) in same in
    let yes : eqb t t ≡ true = eq-eqb t t refl in
    let gone : lookup (nat_eq t) ts' ≡ None = rw yes at (turns t) in
    record {
      numbered = record { rise = rise; within = subst (λ (xs : List (ℕ × Turn)). AllByRecursion (λ k. k ≤ last) (keys_of xs)) (sym is) (within_less last t ts h.numbered.within) };
      ticketed = tickets_less ks ks' c t p ts ts' is others h.numbered.rise own has at tickets h.ticketed;
      placed = places_less t p ts ts' ps ps' at gone others places h.placed;
    }

-- A turn's mark changes.
abbrev pub with_mark : Bool → Turn → Turn
with_mark b p = record p { waiter = record p.waiter { marked = b } }

pub marked_view : (ks : List (ℕ × ℕ)) (ts : List (ℕ × Turn)) (c t : ℕ) (p : Turn) (b : Bool) → Have ts ks → lookup (nat_eq c) ks ≡ Some t → lookup (nat_eq t) ts ≡ Some p → p.caller.0 ≡ c → in_turn (set_value (nat_eq t) ts (with_mark b p)) ≡ marked_in c b (in_turn ts)
marked_view ks [] c t p b have has at own = refl
marked_view ks (e ∷ ts) c t p b have has at own =
    let test = head_tests ks ts e c t p have.0 has at own in
    elim (eqb_tells t e.0) [
      | inl y ↦
          let here : Some e.1 ≡ Some p = rw y.0 at at in
          let turn : p ≡ e.1 = cc in
          rw (test, y.0) (ap (λ (u : Turn). (u.caller.0, record u.waiter { marked = b }) ∷ in_turn ts) turn)
      | inr n ↦
          let rest : lookup (nat_eq t) ts ≡ Some p = rw n.0 at at in
          rw (test, n.0) (ap (λ xs. (e.1.caller.0, e.1.waiter) ∷ xs) (marked_view ks ts c t p b have.1 has rest own))
    ]

module _ (t : ℕ) (p : Turn) (b : Bool) where
  same_keys : (ts : List (ℕ × Turn)) → keys_of (set_value (nat_eq t) ts (with_mark b p)) ≡ keys_of ts
  same_keys [] = refl
  same_keys (e ∷ ts) = elim (eqb_tells t e.0) [ inl y ↦ rw y.0 refl | inr n ↦ rw n.0 (ap (λ xs. e.0 ∷ xs) (same_keys ts)) ]

  set_own : (ts : List (ℕ × Turn)) → lookup (nat_eq t) ts ≡ Some p → lookup (nat_eq t) (set_value (nat_eq t) ts (with_mark b p)) ≡ Some (with_mark b p)
  set_own [] at = absurd (cc)
  set_own (e ∷ ts) at = elim (eqb_tells t e.0) [
    | inl y ↦ rw (y.0, y.0) refl
    | inr n ↦ let rest : lookup (nat_eq t) ts ≡ Some p = rw n.0 at at in rw (n.0, n.0) (set_own ts rest)
  ]

  set_other : (ts : List (ℕ × Turn)) (m : ℕ) → eqb t m ≡ false → lookup (nat_eq m) (set_value (nat_eq t) ts (with_mark b p)) ≡ lookup (nat_eq m) ts
  set_other [] m off = refl
  set_other (e ∷ ts) m off = elim (eqb_tells t e.0) [
    | inl y ↦ let no : eqb m e.0 ≡ false = ap (eqb m) (sym y.1) ∙ (test_turned m t ∙ off) in rw (y.0, no) refl
    | inr n ↦ elim (eqb_tells m e.0) [ inl z ↦ rw (n.0, z.0) refl | inr z ↦ rw (n.0, z.0) (set_other ts m off) ]
  ]

  have_set : (ks : List (ℕ × ℕ)) (ts : List (ℕ × Turn)) → lookup (nat_eq t) ts ≡ Some p → Have ts ks → Have (set_value (nat_eq t) ts (with_mark b p)) ks
  have_set ks [] at have = tt
  have_set ks (e ∷ ts) at have = elim (eqb_tells t e.0) [
    | inl y ↦
        let here : Some e.1 ≡ Some p = rw y.0 at at in
        let turn : p ≡ e.1 = cc in
        rw y.0 (ap (λ (u : Turn). lookup (nat_eq u.caller.0) ks) turn ∙ have.0, have.1)
    | inr n ↦ let rest : lookup (nat_eq t) ts ≡ Some p = rw n.0 at at in rw n.0 (have.0, have_set ks ts rest have.1)
  ]

  pub marked : (ts : List (ℕ × Turn)) (ks : List (ℕ × ℕ)) (ps : List (Place × CallerId)) (last : ℕ) → lookup (nat_eq t) ts ≡ Some p → IsQueue ts ks ps last → IsQueue (set_value (nat_eq t) ts (with_mark b p)) ks ps last
  marked ts ks ps last at h = record {
    numbered = record {
      rise = subst (λ (xs : List ℕ). IsStrictlySortedBy nat_cmp xs) (sym (same_keys ts)) h.numbered.rise;
      within = subst (λ (xs : List ℕ). AllByRecursion (λ k. k ≤ last) xs) (sym (same_keys ts)) h.numbered.within;
    };
    ticketed = record {
      each = have_set ks ts at h.ticketed.each;
      there = λ d k has. there_set d k (h.ticketed.there d k has);
    };
    placed = record { at = λ e m. h.placed.at e m ∙ placed_set e m };
  }
    where
      there_set : (d k : ℕ) → IsTurnOf ts d k → IsTurnOf (set_value (nat_eq t) ts (with_mark b p)) d k
      there_set d k was = elim (eqb_tells t k) [
        | inl y ↦
            let turns : Some p ≡ Some was.turn = sym at ∙ (ap (λ m. lookup (nat_eq m) ts) y.1 ∙ was.found) in
            let turn : p ≡ was.turn = cc in
            record {
              turn = with_mark b p;
              found = ap (λ m. lookup (nat_eq m) (set_value (nat_eq t) ts (with_mark b p))) (sym y.1) ∙ set_own ts at;
              own = ap (λ (u : Turn). u.caller.0) turn ∙ was.own;
            }
        | inr n ↦ record { turn = was.turn; found = set_other ts k n.0 ∙ was.found; own = was.own }
      ]

      placed_set : (e m : ℕ) → caller_at e (lookup (nat_eq m) ts) ≡ caller_at e (lookup (nat_eq m) (set_value (nat_eq t) ts (with_mark b p)))
      placed_set e m = elim (eqb_tells t m) [
        | inl y ↦
            let was : lookup (nat_eq m) ts ≡ Some p = ap (λ n. lookup (nat_eq n) ts) (sym y.1) ∙ at in
            let is : lookup (nat_eq m) (set_value (nat_eq t) ts (with_mark b p)) ≡ Some (with_mark b p) = ap (λ n. lookup (nat_eq n) (set_value (nat_eq t) ts (with_mark b p))) (sym y.1) ∙ set_own ts at in
            ap (caller_at e) was ∙ sym (ap (caller_at e) is)
        | inr n ↦ ap (caller_at e) (sym (set_other ts m n.0))
      ]

-- The first at an instance.
some_at : (e : ℕ) (p : Turn) → (p.waiter.instance.0 == e) ≡ true → caller_at e (Some p) ≡ Some p.caller
some_at e p here = rw here refl

first_listed : (ts : List (ℕ × Turn)) (e t : ℕ) (p : Turn) → IsStrictlySortedBy nat_cmp (keys_of ts) → lookup (nat_eq t) ts ≡ Some p → (p.waiter.instance.0 == e) ≡ true
    → ((k : ℕ) (q : Turn) → lookup (nat_eq k) ts ≡ Some q → (q.waiter.instance.0 == e) ≡ true → t ≤ k) → first_at e (listed (in_turn ts)) ≡ Some p.caller.0
first_listed [] e t p rise at here least = absurd (cc)
first_listed (x ∷ ts) e t p rise at here least = elim (eqb_tells t x.0) [
  | inl y ↦
      let is : Some x.1 ≡ Some p = rw y.0 at at in
      let turn : x.1 ≡ p = cc in
      let yes : (x.1.waiter.instance.0 == e) ≡ true = ap (λ (u : Turn). u.waiter.instance.0 == e) turn ∙ here in
      rw yes (ap (λ (u : Turn). Some u.caller.0) turn)
  | inr n ↦
      let rest : lookup (nat_eq t) ts ≡ Some p = rw n.0 at at in
      let above = sorted_head nat_cmp x.0 (keys_of ts) rise in
      let after : x.0 < t = above_found x.0 t ts p above rest in
      let yes : eqb x.0 x.0 ≡ true = eq-eqb x.0 x.0 refl in
      let head : lookup (nat_eq x.0) (x ∷ ts) ≡ Some x.1 = rw yes refl in
      elim (either (x.1.waiter.instance.0 == e)) [
        | inl z ↦ let le : t ≤ x.0 = least x.0 x.1 head z in absurd (omega (arith, le, after))
        | inr z ↦ rw z (first_listed ts e t p (sorted_tail nat_cmp x.0 (keys_of ts) rise) rest here (λ k q found at. least k q (later k q above found) at))
      ]
]
  where
    later : (k : ℕ) (q : Turn) → AreAbove x.0 ts → lookup (nat_eq k) ts ≡ Some q → lookup (nat_eq k) (x ∷ ts) ≡ Some q
    later k q above found =
        let l = above_found x.0 k ts q above found in
        let off : eqb k x.0 ≡ false = elim (eqb_tells k x.0) [ inl y ↦ let same = y.1 in absurd (omega (arith, l, same)) | inr n ↦ n.0 ] in
        rw off found

none_listed : (ts : List (ℕ × Turn)) (e : ℕ) → AllByRecursion (λ x. (x.1.waiter.instance.0 == e) ≡ false) ts → first_at e (listed (in_turn ts)) ≡ None
none_listed [] e off = refl
none_listed (x ∷ ts) e off = let no = off.0 in rw no (none_listed ts e off.1)

-- what holds of every turn that a ticket finds holds of each
each_turn : (Q : Turn → Type 0) (ts : List (ℕ × Turn)) → IsStrictlySortedBy nat_cmp (keys_of ts) → ((k : ℕ) (q : Turn) → lookup (nat_eq k) ts ≡ Some q → Q q) → AllByRecursion (λ x. Q x.1) ts
each_turn Q [] rise h = tt
each_turn Q (x ∷ ts) rise h =
    let yes : eqb x.0 x.0 ≡ true = eq-eqb x.0 x.0 refl in
    let head : lookup (nat_eq x.0) (x ∷ ts) ≡ Some x.1 = rw yes refl in
    let above = sorted_head nat_cmp x.0 (keys_of ts) rise in
    (h x.0 x.1 head, each_turn Q ts (sorted_tail nat_cmp x.0 (keys_of ts) rise) (λ k q found. h k q (later k q above found)))
  where
    later : (k : ℕ) (q : Turn) → AreAbove x.0 ts → lookup (nat_eq k) ts ≡ Some q → lookup (nat_eq k) (x ∷ ts) ≡ Some q
    later k q above found =
        let l = above_found x.0 k ts q above found in
        let off : eqb k x.0 ≡ false = elim (eqb_tells k x.0) [ inl y ↦ let same = y.1 in absurd (omega (arith, l, same)) | inr n ↦ n.0 ] in
        rw off found

-- where a place is found, so is a turn at the instance
record IsTurnAt (ts : List (ℕ × Turn)) (e t : ℕ) (c : CallerId) : Type 0 where
  turn : Turn
  found : lookup (nat_eq t) ts ≡ Some turn
  here : (turn.waiter.instance.0 == e) ≡ true
  own : turn.caller ≡ c

turn_under : (ts : List (ℕ × Turn)) (e t : ℕ) (c : CallerId) → caller_at e (lookup (nat_eq t) ts) ≡ Some c → IsTurnAt ts e t c
turn_under ts e t c is = by (lookup (nat_eq t) ts) refl is
  where
    by : (o : Option Turn) → lookup (nat_eq t) ts ≡ o → caller_at e o ≡ Some c → IsTurnAt ts e t c
    by None at s = absurd (cc)
    by (Some p) at s = elim (either (p.waiter.instance.0 == e)) [
      | inl y ↦ let own : Some p.caller ≡ Some c = rw y at s in record { turn = p; found = at; here = y; own = cc }
      | inr n ↦ let bad : None ≡ Some c = rw n at s in absurd (cc)
    ]

pub first_of_places : (ts : List (ℕ × Turn)) (ks : List (ℕ × ℕ)) (ps : List (Place × CallerId)) (last e : ℕ) (o : Option CallerId) → IsQueue ts ks ps last → MatchOption o (HasNoPlace ps e last) (λ c. IsFirstPlace ps e last c)
    → option_map (λ (c : CallerId). c.0) o ≡ first_at e (listed (in_turn ts))
first_of_places ts ks ps last e None h none =
    sym (none_listed ts e (each_turn (λ q. (q.waiter.instance.0 == e) ≡ false) ts h.numbered.rise (λ k q found. elim (either (q.waiter.instance.0 == e)) [
      | inl y ↦
          let le = within_found last k ts q h.numbered.within found in
          let bad : None ≡ Some q.caller = sym (none k le) ∙ (h.placed.at e k ∙ (ap (caller_at e) found ∙ some_at e q y)) in
          absurd (cc)
      | inr n ↦ n
    ])))
first_of_places ts ks ps last e (Some c) h first =
    let at = turn_under ts e first.ticket c (sym (h.placed.at e first.ticket) ∙ first.its) in
    sym (first_listed ts e first.ticket at.turn h.numbered.rise at.found at.here
    (λ k q found here. first.least k (within_found last k ts q h.numbered.within found) (ap is_some (h.placed.at e k ∙ (ap (caller_at e) found ∙ some_at e q here))))
    ∙ ap (λ (d : CallerId). Some d.0) at.own)
