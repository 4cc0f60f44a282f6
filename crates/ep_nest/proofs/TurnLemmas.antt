-- Links under tickets, through each change.
use Rattle.std.proofs.Common.{Bool, List, None, Some, [], ap, append-nil, arith, cond, eq-eqb, eqb, false, filter, if◌then◌else◌, inl, inr, is_some, nat_eq, nat_lt, not, refl, subst, sym, true, ℕ, ◌++◌, ◌<◌, ◌∙◌, ◌∷◌, ◌==◌, ◌≡◌, ◌≤◌}
use Rattle.std.proofs.lemmas.Bool.{and_parts, cases_Bool, eqb-true, ltb-true, not-true, or_parts}
use Rattle.std.proofs.lemmas.Bool.Decides.{eqb_tells}
use Rattle.std.proofs.lemmas.Cmp.{ranked}
use Rattle.std.proofs.lemmas.List.{map-append}
use Rattle.std.proofs.lemmas.Map.Keys.{sorted_head, sorted_tail}
use Rattle.std.specs.BTreeMap.{insert_entry, is_at}
use Rattle.std.specs.List.{AllByRecursion}
use Rattle.std.specs.List.Sorted.{IsStrictlySortedBy}
use Rattle.std.specs.Map.{keys_of, lookup, remove_entry, values_of}
use Rattle.std.specs.Ordering.{is_eq, nat_cmp}
use Rattle.std.specs.declared.cmp.Ordering.TheVariants.{Equal, Greater, Less}
use Rattle.ep_machine.specs.Lists.{are_distinct, is_among}
use Rattle.ep_nest.proofs.KeptLemmas.{distinct_part, distinct_pushed}
use Rattle.ep_nest.specs.Adjacent.{GainsTurn, LosesTurn, SameTurns, turns_at}
use Rattle.ep_nest.specs.Links.{entries, is_of, starting_at, starts_at, without}
use Rattle.ep_nest.specs.Storage.{ArePlaced, IsStored, ticket_of, turns_from}
use Rattle.ep_nest.specs.declared.link.Link.{Link}
use Rattle.ep_nest.specs.declared.link.Way.{Way}
use Rattle.ep_nest.specs.declared.link.Way.TheVariants.{Down, Up}

cmp_self : (n : ℕ) → nat_cmp n n ≡ Equal
cmp_self n =
    let lt : nat_lt n n ≡ false = elim (cases_Bool (nat_lt n n)) [ inl y ↦ let l = ltb-true n n y in absurd (omega (arith, l)) | inr off ↦ off ] in
    let eq : eqb n n ≡ true = eq-eqb n n refl in
    rw (lt, eq) refl

cmp_below : (a b : ℕ) → a < b → nat_cmp b a ≡ Greater
cmp_below a b l =
    let lt : nat_lt b a ≡ false = elim (cases_Bool (nat_lt b a)) [ inl y ↦ let k = ltb-true b a y in absurd (omega (arith, l, k)) | inr off ↦ off ] in
    let eq : eqb b a ≡ false = elim (eqb_tells b a) [ inl p ↦ let e = p.1 in absurd (omega (arith, l, e)) | inr p ↦ p.0 ] in
    rw (lt, eq) refl

-- the test of a ticket is that of the number
key_test : (a b : ℕ) → is_eq (nat_cmp a b) ≡ nat_eq a b
key_test a b = elim (eqb_tells a b) [
  | inl p ↦ ap (λ n. is_eq (nat_cmp a n)) (sym p.1) ∙ (ap is_eq (cmp_self a) ∙ sym p.0)
  | inr p ↦ rw p.0 (elim (cases_Bool (nat_lt a b)) [ inl y ↦ rw y refl | inr n ↦ rw n refl ])
]

pub ticket_test : (t : ℕ) → is_at (nat_cmp t) ≡ nat_eq t
ticket_test t = λ j. λ k. key_test t k j

-- by the test of the map of turns
pub at_ticket : (t : ℕ) (ts : List (ℕ × Link)) → lookup (is_at (nat_cmp t)) ts ≡ lookup (nat_eq t) ts
at_ticket t ts = ap (λ (f : ℕ → Bool). lookup f ts) (ticket_test t)

below : (k t : ℕ) → nat_cmp k t ≡ Less → k < t
below k t l = ranked k t Less (sym l)

abbrev pub AreBelow : ℕ → List ℕ → Type 0
AreBelow t ks = AllByRecursion (λ k. k < t) ks

abbrev AreAbove : ℕ → List (ℕ × Link) → Type 0
AreAbove k ts = AllByRecursion (λ y. nat_cmp k y ≡ Less) (keys_of ts)

pub next_is_above : (last t : ℕ) (ks : List ℕ) → last < t → AllByRecursion (λ k. k ≤ last) ks → AreBelow t ks
next_is_above last t [] lt h = tt
next_is_above last t (k ∷ ks) lt h = let l = h.0 in (omega (arith, l, lt), next_is_above last t ks lt h.1)

below_part : (t : ℕ) (q : ℕ × Link → Bool) (ts : List (ℕ × Link)) → AreBelow t (keys_of ts) → AreBelow t (keys_of (filter q ts))
below_part t q [] h = tt
below_part t q (e ∷ ts) h = elim (cases_Bool (q e)) [
  | inl is ↦ rw is (h.0, below_part t q ts h.1)
  | inr off ↦ rw off (below_part t q ts h.1)
]

-- a turn behind all others
pub put_last : (t : ℕ) (p : Link) (ts : List (ℕ × Link)) → AreBelow t (keys_of ts) → insert_entry nat_cmp ts t p ≡ ts ++ (t, p) ∷ []
put_last t p [] within = refl
put_last t p (e ∷ ts) within =
    let after = cmp_below e.0 t within.0 in
    rw after (ap (λ xs. e ∷ xs) (put_last t p ts within.1))

put_back : (t : ℕ) (p : Link) (ts : List (ℕ × Link)) → AreBelow t (keys_of ts) → remove_entry (nat_eq t) (ts ++ (t, p) ∷ []) ≡ ts
put_back t p [] within = let yes : eqb t t ≡ true = eq-eqb t t refl in rw yes refl
put_back t p (e ∷ ts) within =
    let l = within.0 in
    let off : eqb t e.0 ≡ false = elim (eqb_tells t e.0) [ inl y ↦ let same = y.1 in absurd (omega (arith, l, same)) | inr n ↦ n.0 ] in
    rw off (ap (λ xs. e ∷ xs) (put_back t p ts within.1))

within_last : (last t : ℕ) (p : Link) (ts : List (ℕ × Link)) → last < t → AllByRecursion (λ k. k ≤ last) (keys_of ts) → AllByRecursion (λ k. k ≤ t) (keys_of (ts ++ (t, p) ∷ []))
within_last last t p [] lt h = (omega arith, tt)
within_last last t p (e ∷ ts) lt h = let l = h.0 in (omega (arith, l, lt), within_last last t p ts lt h.1)

within_less : (last t : ℕ) (ts : List (ℕ × Link)) → AllByRecursion (λ k. k ≤ last) (keys_of ts) → AllByRecursion (λ k. k ≤ last) (keys_of (remove_entry (nat_eq t) ts))
within_less last t [] within = tt
within_less last t (e ∷ ts) within = elim (eqb_tells t e.0) [ inl y ↦ rw y.0 within.1 | inr n ↦ rw n.0 (within.0, within_less last t ts within.1) ]

-- Tickets of registrations.
no_ticket : (q : ℕ) (ts : List (ℕ × Link)) → is_among (entries (values_of ts)) q ≡ false → ticket_of q ts ≡ None
no_ticket q [] none = refl
no_ticket q (e ∷ ts) none =
    let apart = or_parts (q == e.1.entry.0) (is_among (entries (values_of ts)) q) none in
    let off : is_of q e.1 ≡ false = elim (eqb_tells e.1.entry.0 q) [
      | inl y ↦ let bad : true ≡ false = sym (eq-eqb q e.1.entry.0 (sym y.1)) ∙ apart.0 in absurd (cc)
      | inr n ↦ n.0
    ] in
    rw off (no_ticket q ts apart.1)

pub not_among : (q : ℕ) (ts : List (ℕ × Link)) → ticket_of q ts ≡ None → is_among (entries (values_of ts)) q ≡ false
not_among q [] none = refl
not_among q (e ∷ ts) none = elim (cases_Bool (is_of q e.1)) [
  | inl is ↦ let bad : Some e.0 ≡ None = rw is at none in absurd (cc)
  | inr off ↦
      let apart : (q == e.1.entry.0) ≡ false = elim (eqb_tells q e.1.entry.0) [
        | inl y ↦ let bad : true ≡ false = sym (eq-eqb e.1.entry.0 q (sym y.1)) ∙ off in absurd (cc)
        | inr n ↦ n.0
      ] in
      rw apart (not_among q ts (rw off at none))
]

-- a registration has a ticket exactly where it has a link
pub has_ticket : (q : ℕ) (ts : List (ℕ × Link)) → is_some (ticket_of q ts) ≡ is_among (entries (values_of ts)) q
has_ticket q [] = refl
has_ticket q (e ∷ ts) = elim (eqb_tells e.1.entry.0 q) [
  | inl y ↦ let same : (q == e.1.entry.0) ≡ true = eq-eqb q e.1.entry.0 (sym y.1) in rw (y.0, same) refl
  | inr n ↦
      let apart : (q == e.1.entry.0) ≡ false = elim (eqb_tells q e.1.entry.0) [
        | inl y ↦ let bad : true ≡ false = sym (eq-eqb e.1.entry.0 q (sym y.1)) ∙ n.0 in absurd (cc)
        | inr z ↦ z.0
      ] in
      rw (n.0, apart) (has_ticket q ts)
]

ticket_last : (q t : ℕ) (l : Link) (ts : List (ℕ × Link)) → is_among (entries (values_of ts)) l.entry.0 ≡ false → ticket_of q (ts ++ (t, l) ∷ []) ≡ cond (nat_eq l.entry.0 q) (Some t) (ticket_of q ts)
ticket_last q t l [] fresh = refl
ticket_last q t l (e ∷ ts) fresh =
    let apart = or_parts (l.entry.0 == e.1.entry.0) (is_among (entries (values_of ts)) l.entry.0) fresh in
    elim (cases_Bool (is_of q e.1)) [
      | inl is ↦
          let same : e.1.entry.0 ≡ q = eqb-true e.1.entry.0 q is in
          let off : nat_eq l.entry.0 q ≡ false = ap (nat_eq l.entry.0) (sym same) ∙ apart.0 in
          rw (is, off) refl
      | inr off ↦ rw off (ticket_last q t l ts apart.1)
    ]

above_ticket : (k q t : ℕ) (ts : List (ℕ × Link)) → AreAbove k ts → ticket_of q ts ≡ Some t → k < t
above_ticket k q t [] above at = absurd (cc)
above_ticket k q t (e ∷ ts) above at = elim (cases_Bool (is_of q e.1)) [
  | inl is ↦
      let here : Some e.0 ≡ Some t = rw is at at in
      let same : e.0 ≡ t = cc in
      let l = below k e.0 above.0 in
      omega (arith, l, same)
  | inr off ↦ let rest : ticket_of q ts ≡ Some t = rw off at at in above_ticket k q t ts above.1 rest
]

-- a ticket that stands further on is another than the first
later : (q t : ℕ) (e : ℕ × Link) (ts : List (ℕ × Link)) → IsStrictlySortedBy nat_cmp (keys_of (e ∷ ts)) → ticket_of q ts ≡ Some t → eqb t e.0 ≡ false
later q t e ts rise at =
    let l = above_ticket e.0 q t ts (sorted_head nat_cmp e.0 (keys_of ts) rise) at in
    elim (eqb_tells t e.0) [ inl y ↦ let same = y.1 in absurd (omega (arith, l, same)) | inr n ↦ n.0 ]

-- the link of a registration's ticket
pub turn_of : (q t : ℕ) (ts : List (ℕ × Link)) → IsStrictlySortedBy nat_cmp (keys_of ts) → ticket_of q ts ≡ Some t → (l : Link) × (lookup (nat_eq t) ts ≡ Some l)
turn_of q t [] rise at = absurd (cc)
turn_of q t (e ∷ ts) rise at = elim (cases_Bool (is_of q e.1)) [
  | inl is ↦
      let here : Some e.0 ≡ Some t = rw is at at in
      let same : t ≡ e.0 = cc in
      let yes : eqb t e.0 ≡ true = eq-eqb t e.0 same in
      (e.1, rw yes refl)
  | inr off ↦
      let rest : ticket_of q ts ≡ Some t = rw off at at in
      let n = later q t e ts rise rest in
      let found = turn_of q t ts (sorted_tail nat_cmp e.0 (keys_of ts) rise) rest in
      (found.0, rw n found.1)
]

-- what is without a registration that has no link
pub none_without : (q : ℕ) (ls : List Link) → is_among (entries ls) q ≡ false → ls ≡ without q ls
none_without q [] none = refl
none_without q (l ∷ ls) none =
    let apart = or_parts (q == l.entry.0) (is_among (entries ls) q) none in
    let off : is_of q l ≡ false = elim (eqb_tells l.entry.0 q) [
      | inl y ↦ let bad : true ≡ false = sym (eq-eqb q l.entry.0 (sym y.1)) ∙ apart.0 in absurd (cc)
      | inr n ↦ n.0
    ] in
    rw off (ap (λ xs. l ∷ xs) (none_without q ls apart.1))

head_apart : (l : Link) (ls : List Link) → are_distinct (entries (l ∷ ls)) ≡ true → is_among (entries ls) l.entry.0 ≡ false
head_apart l ls distinct =
    let parts = and_parts (not (is_among (entries ls) l.entry.0)) (are_distinct (entries ls)) distinct in
    not-true (is_among (entries ls) l.entry.0) parts.0

tail_distinct : (l : Link) (ls : List Link) → are_distinct (entries (l ∷ ls)) ≡ true → are_distinct (entries ls) ≡ true
tail_distinct l ls distinct = (and_parts (not (is_among (entries ls) l.entry.0)) (are_distinct (entries ls)) distinct).1

pub removed_view : (q t : ℕ) (ts : List (ℕ × Link)) → IsStrictlySortedBy nat_cmp (keys_of ts) → are_distinct (entries (values_of ts)) ≡ true → ticket_of q ts ≡ Some t → values_of (remove_entry (nat_eq t) ts) ≡ without q (values_of ts)
removed_view q t [] rise distinct at = refl
removed_view q t (e ∷ ts) rise distinct at = elim (cases_Bool (is_of q e.1)) [
  | inl is ↦
      let here : Some e.0 ≡ Some t = rw is at at in
      let same : t ≡ e.0 = cc in
      let yes : eqb t e.0 ≡ true = eq-eqb t e.0 same in
      let own : e.1.entry.0 ≡ q = eqb-true e.1.entry.0 q is in
      let none : is_among (entries (values_of ts)) q ≡ false = ap (is_among (entries (values_of ts))) (sym own) ∙ head_apart e.1 (values_of ts) distinct in
      rw (yes, is) (none_without q (values_of ts) none)
  | inr off ↦
      let rest : ticket_of q ts ≡ Some t = rw off at at in
      let n = later q t e ts rise rest in
      rw (n, off) (ap (λ xs. e.1 ∷ xs) (removed_view q t ts (sorted_tail nat_cmp e.0 (keys_of ts) rise) (tail_distinct e.1 (values_of ts) distinct) rest))
]

ticket_less : (r q t : ℕ) (ts : List (ℕ × Link)) → IsStrictlySortedBy nat_cmp (keys_of ts) → are_distinct (entries (values_of ts)) ≡ true → ticket_of q ts ≡ Some t → ticket_of r (remove_entry (nat_eq t) ts) ≡ cond (nat_eq q r) None (ticket_of r ts)
ticket_less r q t [] rise distinct at = absurd (cc)
ticket_less r q t (e ∷ ts) rise distinct at = elim (cases_Bool (is_of q e.1)) [
  | inl is ↦
      let here : Some e.0 ≡ Some t = rw is at at in
      let same : t ≡ e.0 = cc in
      let yes : eqb t e.0 ≡ true = eq-eqb t e.0 same in
      let own : e.1.entry.0 ≡ q = eqb-true e.1.entry.0 q is in
      elim (eqb_tells q r) [
        | inl y ↦
            let none : is_among (entries (values_of ts)) r ≡ false = ap (is_among (entries (values_of ts))) (sym (own ∙ y.1)) ∙ head_apart e.1 (values_of ts) distinct in
            rw (yes, y.0) (no_ticket r ts none)
        | inr n ↦ let off : is_of r e.1 ≡ false = ap (λ k. eqb k r) own ∙ n.0 in rw (yes, n.0, off) refl
      ]
  | inr off ↦
      let rest : ticket_of q ts ≡ Some t = rw off at at in
      let n = later q t e ts rise rest in
      elim (cases_Bool (is_of r e.1)) [
        | inl is ↦
            let own : e.1.entry.0 ≡ r = eqb-true e.1.entry.0 r is in
            let apart : nat_eq q r ≡ false = elim (eqb_tells q r) [
              | inl y ↦ let bad : true ≡ false = sym (eq-eqb e.1.entry.0 q (own ∙ sym y.1)) ∙ off in absurd (cc)
              | inr z ↦ z.0
            ] in
            rw (n, is, apart) refl
        | inr other ↦ rw (n, other) (ticket_less r q t ts (sorted_tail nat_cmp e.0 (keys_of ts) rise) (tail_distinct e.1 (values_of ts) distinct) rest)
      ]
]

-- The turns of one instance.
values_from : (way : Way) (k : ℕ) (ts : List (ℕ × Link)) → values_of (turns_from way k ts) ≡ starting_at way k (values_of ts)
values_from way k [] = refl
values_from way k (e ∷ ts) = elim (cases_Bool (starts_at way k e.1)) [
  | inl is ↦ rw is (ap (λ xs. e.1 ∷ xs) (values_from way k ts))
  | inr off ↦ rw off (values_from way k ts)
]

-- what an instance has are the links that start there
pub placed_from : (way given : Way) (k : ℕ) (ts : List (ℕ × Link)) (ls ms : List Link) (tss : List (List (ℕ × Link))) → ArePlaced way ts tss → given ≡ way → values_of ts ≡ ls → ms ≡ values_of (turns_at tss k) → ms ≡ starting_at given k ls
placed_from way given k ts ls ms tss placed is view from = from ∙ (ap values_of (placed k) ∙ (values_from way k ts ∙ (λ j. starting_at (sym is j) k (view j))))

placed_last : (way : Way) (k t : ℕ) (l : Link) (ts : List (ℕ × Link)) → turns_from way k (ts ++ (t, l) ∷ []) ≡ turns_from way k ts ++ (if starts_at way k l then (t, l) ∷ [] else [])
placed_last way k t l [] = elim (cases_Bool (starts_at way k l)) [ inl is ↦ rw is refl | inr off ↦ rw off refl ]
placed_last way k t l (e ∷ ts) =
    let rest = placed_last way k t l ts in
    elim (cases_Bool (starts_at way k e.1)) [ inl is ↦ rw is (ap (λ xs. e ∷ xs) rest) | inr off ↦ rw off rest ]

placed_less : (way : Way) (k t : ℕ) (l : Link) (ts : List (ℕ × Link)) → lookup (nat_eq t) ts ≡ Some l → turns_from way k (remove_entry (nat_eq t) ts) ≡ (if starts_at way k l then remove_entry (nat_eq t) (turns_from way k ts) else turns_from way k ts)
placed_less way k t l [] found = absurd (cc)
placed_less way k t l (e ∷ ts) found = elim (eqb_tells t e.0) [
  | inl y ↦
      let here : Some e.1 ≡ Some l = rw y.0 at found in
      let same : e.1 ≡ l = cc in
      elim (cases_Bool (starts_at way k l)) [
        | inl is ↦ let its : starts_at way k e.1 ≡ true = ap (starts_at way k) same ∙ is in rw (y.0, is, its) (rw y.0 refl)
        | inr off ↦ let its : starts_at way k e.1 ≡ false = ap (starts_at way k) same ∙ off in rw (y.0, off, its) refl
      ]
  | inr n ↦
      let rest : lookup (nat_eq t) ts ≡ Some l = rw n.0 at found in
      let before = placed_less way k t l ts rest in
      elim (cases_Bool (starts_at way k e.1)) [
        | inl is ↦ elim (cases_Bool (starts_at way k l)) [
          | inl too ↦ let same : turns_from way k (remove_entry (nat_eq t) ts) ≡ remove_entry (nat_eq t) (turns_from way k ts) = rw too at before in rw (n.0, is, too) (rw n.0 (ap (λ xs. e ∷ xs) same))
          | inr off ↦ let same : turns_from way k (remove_entry (nat_eq t) ts) ≡ turns_from way k ts = rw off at before in rw (n.0, is, off) (ap (λ xs. e ∷ xs) same)
        ]
        | inr other ↦ rw (n.0, other) before
      ]
]

-- a link that was put last and is taken away again
pub undone : (old mid new : List (List (ℕ × Link))) (i t : ℕ) (l : Link) → AreBelow t (keys_of (turns_at old i)) → GainsTurn old mid i t l → LosesTurn mid new i t → SameTurns old new
undone old mid new i t l under gains loses k =
    let gained = gains k in
    let lost = loses k in
    elim (eqb_tells i k) [
      | inl y ↦
          let g : turns_at mid k ≡ turns_at old k ++ (t, l) ∷ [] = rw y.0 at gained in
          let m : turns_at new k ≡ remove_entry (nat_eq t) (turns_at mid k) = rw y.0 at lost in
          m ∙ (ap (remove_entry (nat_eq t)) g ∙ put_back t l (turns_at old k) (subst (λ j. AreBelow t (keys_of (turns_at old j))) y.1 under))
      | inr n ↦
          let g : turns_at mid k ≡ turns_at old k ++ [] = rw n.0 at gained in
          let m : turns_at new k ≡ turns_at mid k = rw n.0 at lost in
          m ∙ (g ∙ append-nil (turns_at old k))
    ]

-- The links that are stored.
module _ (ts : List (ℕ × Link)) (ks : List (ℕ × ℕ)) (down up : List (List (ℕ × Link))) (last : ℕ) (h : IsStored ts ks down up last) where
  -- the turns of an instance are below the next ticket
  pub placed_below : (way : Way) (tss : List (List (ℕ × Link))) (k t : ℕ) → ArePlaced way ts tss → last < t → AreBelow t (keys_of (turns_at tss k))
  placed_below way tss k t placed lt =
      subst (λ xs. AreBelow t (keys_of xs)) (sym (placed k)) (below_part t (λ e. starts_at way k e.1) ts (next_is_above last t (keys_of ts) lt h.numbered.within))

  -- a refused growth
  pub kept : (ts' : List (ℕ × Link)) (ks' : List (ℕ × ℕ)) (down' up' : List (List (ℕ × Link))) → ts' ≡ ts → ks' ≡ ks → SameTurns down down' → SameTurns up up' → IsStored ts' ks' down' up' last
  kept ts' ks' down' up' turns tickets below above = rw (turns, tickets) (record {
    numbered = h.numbered;
    distinct = h.distinct;
    ticketed = h.ticketed;
    down = λ k. below k ∙ h.down k;
    up = λ k. above k ∙ h.up k;
  })

  pub pushed : (ts' : List (ℕ × Link)) (ks' : List (ℕ × ℕ)) (down' up' : List (List (ℕ × Link))) (t : ℕ) (l : Link)
      → last < t
      → is_among (entries (values_of ts)) l.entry.0 ≡ false
      → ts' ≡ ts ++ (t, l) ∷ []
      → IsStrictlySortedBy nat_cmp (keys_of ts')
      → ((q : ℕ) → lookup (nat_eq q) ks' ≡ cond (nat_eq l.entry.0 q) (Some t) (lookup (nat_eq q) ks))
      → GainsTurn down down' l.outer.0 t l
      → GainsTurn up up' l.inner.0 t l
      → IsStored ts' ks' down' up' t
  pushed ts' ks' down' up' t l lt fresh is rise tickets below above = record {
    numbered = record { rise = rise; within = subst (λ xs. AllByRecursion (λ k. k ≤ t) (keys_of xs)) (sym is) (within_last last t l ts lt h.numbered.within) };
    distinct = ap (λ xs. are_distinct (entries (values_of xs))) is ∙ (ap (λ ls. are_distinct (entries ls)) (map-append (λ (e : ℕ × Link). e.1) ts ((t, l) ∷ [])) ∙ distinct_pushed (values_of ts) l h.distinct fresh);
    ticketed = λ q. tickets q ∙ (ap (cond (nat_eq l.entry.0 q) (Some t)) (h.ticketed q) ∙ (sym (ticket_last q t l ts fresh) ∙ ap (ticket_of q) (sym is)));
    down = λ k. below k ∙ (ap (λ xs. xs ++ (if starts_at Down k l then (t, l) ∷ [] else [])) (h.down k) ∙ (sym (placed_last Down k t l ts) ∙ ap (turns_from Down k) (sym is)));
    up = λ k. above k ∙ (ap (λ xs. xs ++ (if starts_at Up k l then (t, l) ∷ [] else [])) (h.up k) ∙ (sym (placed_last Up k t l ts) ∙ ap (turns_from Up k) (sym is)));
  }

  pub removed : (ts' : List (ℕ × Link)) (ks' : List (ℕ × ℕ)) (down' up' : List (List (ℕ × Link))) (q t : ℕ) (l : Link)
      → ticket_of q ts ≡ Some t
      → lookup (nat_eq t) ts ≡ Some l
      → ts' ≡ remove_entry (nat_eq t) ts
      → IsStrictlySortedBy nat_cmp (keys_of ts')
      → ((r : ℕ) → lookup (nat_eq r) ks' ≡ cond (nat_eq q r) None (lookup (nat_eq r) ks))
      → LosesTurn down down' l.outer.0 t
      → LosesTurn up up' l.inner.0 t
      → IsStored ts' ks' down' up' last
  removed ts' ks' down' up' q t l at found is rise tickets below above = record {
    numbered = record { rise = rise; within = subst (λ xs. AllByRecursion (λ k. k ≤ last) (keys_of xs)) (sym is) (within_less last t ts h.numbered.within) };
    distinct = ap (λ xs. are_distinct (entries (values_of xs))) is ∙ (ap (λ ls. are_distinct (entries ls)) (removed_view q t ts h.numbered.rise h.distinct at) ∙ distinct_part (λ m. not (is_of q m)) (values_of ts) h.distinct);
    ticketed = λ r. tickets r ∙ (ap (cond (nat_eq q r) None) (h.ticketed r) ∙ (sym (ticket_less r q t ts h.numbered.rise h.distinct at) ∙ ap (ticket_of r) (sym is)));
    down = λ k. below k ∙ (ap (λ xs. if starts_at Down k l then remove_entry (nat_eq t) xs else xs) (h.down k) ∙ (sym (placed_less Down k t l ts found) ∙ ap (turns_from Down k) (sym is)));
    up = λ k. above k ∙ (ap (λ xs. if starts_at Up k l then remove_entry (nat_eq t) xs else xs) (h.up k) ∙ (sym (placed_less Up k t l ts found) ∙ ap (turns_from Up k) (sym is)));
  }
