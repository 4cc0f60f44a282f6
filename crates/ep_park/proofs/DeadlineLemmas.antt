-- The moments of waiters, by caller, and what comes of them in the list.
use Rattle.std.proofs.Common.{◌≡◌, ℕ, IsSome, Bool, true, false, not, ◌&&◌, ◌||◌, ◌<◌, ◌≤◌, ◌+◌, List, [], ◌∷◌, MatchOption, Option, Some, None, refl, sym, ap, ◌∙◌, inl, inr, map, nat_eq, eqb, is_some, arith, if◌then◌else◌}
use Rattle.std.proofs.Math.Bool.{or-true}
use Rattle.std.proofs.lemmas.Bool.{eq-eqb, le-leb, leb-false, leb-true}
use Rattle.std.proofs.lemmas.Bool.Decides.{eqb_tells}
use Rattle.std.proofs.lemmas.Map.Keys.{IsDistinct-head, IsDistinct-tail}
use Rattle.std.specs.List.{AllByRecursion, IsDistinct, count_by, find, list_any}
use Rattle.std.specs.Map.{keys_of, lookup}
use Rattle.std.specs.Option.{option_map}
use Rattle.ep_facts.proofs.NatFacts.{test_turned}
use Rattle.ep_base.specs.declared.ids.CallerId.{CallerId}
use Rattle.ep_machine.specs.State.{Waiter as Parked}
use Rattle.ep_machine.specs.Waits.{is_due, marked_if_due}
use Rattle.ep_park.proofs.TallyLemmas.{counted}
use Rattle.ep_park.proofs.ViewLemmas.{either, found}
use Rattle.ep_park.specs.Changes.{with_mark_at, with_mark_of}
use Rattle.ep_park.specs.Deadlines.{HasDeadlines, HasNoMoment, HasNoneReached, IsAwaitedBy, IsEarliest, IsReachedAt, Moments, SameMoments, SetsMoment, awaited, awaits_mark, moment_of}
use Rattle.ep_park.specs.Queue.{marked_in}
use Rattle.ep_park.specs.Waiters.{is_caller, listed, parked}
use Rattle.ep_park.specs.declared.waiter.Waiter.{Waiter}

-- The moments stay those of the waiters.

-- one caller's moment as its waiter says it now, those of others untouched
pub moments_follow : (es es' : List (ℕ × Waiter)) (d d' : Moments) (c : ℕ) (x : Option Waiter) → HasDeadlines es d → SetsMoment d d' c (option_map awaited x) → ((e : ℕ) → lookup (nat_eq e) es' ≡ (if nat_eq c e then x else lookup (nat_eq e) es)) → HasDeadlines es' d'
moments_follow es es' d d' c x h sets found = record {
  of = λ e. sets e ∙ elim (eqb_tells c e) [
    | inl p ↦ rw p.0 (ap (option_map awaited) (sym (rw p.0 at (found e))))
    | inr p ↦ rw p.0 (h.of e ∙ ap (option_map awaited) (sym (rw p.0 at (found e))))
  ];
}

pub moments_same : (es : List (ℕ × Waiter)) (d d' : Moments) → HasDeadlines es d → SameMoments d d' → HasDeadlines es d'
moments_same es d d' h same = record { of = λ e. same e ∙ h.of e }

pub no_key : (k : ℕ) (es : List (ℕ × Waiter)) → AllByRecursion (λ y. nat_eq k y ≡ false) (keys_of es) → lookup (nat_eq k) es ≡ None
no_key k [] all = refl
no_key k (e ∷ es) all = rw all.0 (no_key k es all.1)

-- what is in the list is under its caller
pub each_found : (Q : Waiter → Type 0) (es : List (ℕ × Waiter)) → IsDistinct nat_eq (keys_of es) → ((c : ℕ) (w : Waiter) → lookup (nat_eq c) es ≡ Some w → Q w) → AllByRecursion (λ e. Q e.1) es
each_found Q [] apart h = tt
each_found Q (e ∷ es) apart h = (h e.0 e.1 (here e.0 e.1 es), each_found Q es (IsDistinct-tail nat_eq e.0 (keys_of es) apart) (λ c w at. h c w (later c w at)))
  where
    here : (k : ℕ) (v : Waiter) (es : List (ℕ × Waiter)) → lookup (nat_eq k) ((k, v) ∷ es) ≡ Some v
    here k v es = elim (eqb_tells k k) [ inl p ↦ rw p.0 refl | inr p ↦ absurd (p.1 refl) ]

    later : (c : ℕ) (w : Waiter) → lookup (nat_eq c) es ≡ Some w → lookup (nat_eq c) (e ∷ es) ≡ Some w
    later c w at = elim (eqb_tells c e.0) [
      | inl p ↦
          let none : lookup (nat_eq e.0) es ≡ None = no_key e.0 es (IsDistinct-head nat_eq e.0 (keys_of es) apart) in
          let bad : None ≡ Some w = sym none ∙ (ap (λ k. lookup (nat_eq k) es) (sym p.1) ∙ at) in
          absurd (cc)
      | inr p ↦ rw p.0 at
    ]

-- Nobody's moment has come.
unmoved : (now : ℕ) (w : Waiter) (k : ℕ) → ((m : ℕ) → awaited w ≡ Some m → now < m) → parked k w ≡ marked_if_due now (parked k w)
unmoved now w k h = ap (λ b. with_mark_of b (parked k w)) (by w.marked w.deadline h)
  where
    off : (m : ℕ) → now < m → is_due now (Some m) ≡ false
    off m lt = elim (either (is_due now (Some m))) [
      | inl y ↦ let le : m ≤ now = leb-true m now y in absurd (omega (arith, lt, le))
      | inr n ↦ n
    ]

    by : (b : Bool) (d : Option ℕ) → ((m : ℕ) → (if b then None else d) ≡ Some m → now < m) → b ≡ (b || is_due now d)
    by true d f = refl
    by false None f = refl
    by false (Some m) f = sym (off m (f m refl))

pub none_moved : (now : ℕ) (es : List (ℕ × Waiter)) → AllByRecursion (λ e. (m : ℕ) → awaited e.1 ≡ Some m → now < m) es → listed es ≡ map (marked_if_due now) (listed es)
none_moved now [] all = refl
none_moved now (e ∷ es) all = λ j. unmoved now e.1 e.0 all.0 j ∷ none_moved now es all.1 j

-- One whose moment has come.
comes : (now m : ℕ) (w : Waiter) (k : ℕ) → awaited w ≡ Some m → m ≤ now → awaits_mark now (parked k w) ≡ true
comes now m w k is le = by w.marked w.deadline is
  where
    by : (b : Bool) (d : Option ℕ) → (if b then None else d) ≡ Some m → (not b && is_due now d) ≡ true
    by true d e = absurd (cc)
    by false None e = absurd (cc)
    by false (Some n) e =
        let same : n ≡ m = cc in
        elim (either (is_due now (Some n))) [
          | inl y ↦ y
          | inr off ↦ ap (λ k. is_due now (Some k)) same ∙ le-leb m now le
        ]

-- the next one, by the moments
pub next_of : (es : List (ℕ × Waiter)) (d : Moments) (now : ℕ) (o : Option CallerId) → IsDistinct nat_eq (keys_of es) → HasDeadlines es d → MatchOption o (HasNoneReached d now) (λ c. IsReachedAt d now c.0)
    → MatchOption o (listed es ≡ map (marked_if_due now) (listed es)) (λ c. IsAwaitedBy (listed es) now c.0)
next_of es d now None apart h none =
    none_moved now es (each_found (λ w. (m : ℕ) → awaited w ≡ Some m → now < m) es apart (λ c w at m is. none c m (h.of c ∙ (ap (option_map awaited) at ∙ ap Some is))))
next_of es d now (Some c) apart h at = by (lookup (nat_eq c.0) es) refl
  where
    by : (l : Option Waiter) → lookup (nat_eq c.0) es ≡ l → IsAwaitedBy (listed es) now c.0
    by None found_it = absurd (let bad : Some (Some at.moment) ≡ None = sym at.its ∙ (h.of c.0 ∙ ap (option_map awaited) found_it) in cc)
    by (Some w) found_it =
        let is : Some (awaited w) ≡ Some (Some at.moment) = sym (ap (option_map awaited) found_it) ∙ (sym (h.of c.0) ∙ at.its) in
        let moment : awaited w ≡ Some at.moment = cc in
        record {
          waiter = parked c.0 w;
          there = sym (found c.0 es) ∙ ap (option_map (parked c.0)) found_it;
          awaits = comes now at.moment w c.0 moment at.reached;
        }

-- One waiter of the list gets the mark that it awaits.
head_is : (c : ℕ) (v w : Parked) (ws : List Parked) → is_caller c w ≡ true → find (is_caller c) (w ∷ ws) ≡ Some v → w ≡ v
head_is c v w ws own at = let here : Some w ≡ Some v = rw own at at in cc

pub same_when_due : (now c : ℕ) (ws : List Parked) → IsAwaitedBy ws now c → map (marked_if_due now) (with_mark_at c true ws) ≡ map (marked_if_due now) ws
same_when_due now c [] at = refl
same_when_due now c (w ∷ ws) at = elim (either (is_caller c w)) [
  | inl y ↦
      let due : awaits_mark now w ≡ true = ap (awaits_mark now) (head_is c at.waiter w ws y at.there) ∙ at.awaits in
      rw y (ap (λ b. with_mark_of b w ∷ map (marked_if_due now) ws) (marked w.marked (is_due now w.deadline) due))
  | inr n ↦
      let rest : find (is_caller c) ws ≡ Some at.waiter = rw n at at.there in
      rw n (ap (λ xs. marked_if_due now w ∷ xs) (same_when_due now c ws (record { waiter = at.waiter; there = rest; awaits = at.awaits })))
]
  where
    marked : (b d : Bool) → (not b && d) ≡ true → true ≡ (b || d)
    marked true d e = refl
    marked false d e = sym e

pub fewer_await : (now c : ℕ) (ws : List Parked) → IsAwaitedBy ws now c → count_by (awaits_mark now) (with_mark_at c true ws) + 1 ≡ count_by (awaits_mark now) ws
fewer_await now c [] at = absurd (let e = at.there in cc)
fewer_await now c (w ∷ ws) at = elim (either (is_caller c w)) [
  | inl y ↦
      let due : awaits_mark now w ≡ true = ap (awaits_mark now) (head_is c at.waiter w ws y at.there) ∙ at.awaits in
      rw (y, counted (awaits_mark now) (with_mark_of true w) ws, counted (awaits_mark now) w ws, due) (omega arith)
  | inr n ↦
      let rest : find (is_caller c) ws ≡ Some at.waiter = rw n at at.there in
      rw (n, counted (awaits_mark now) w (with_mark_at c true ws), counted (awaits_mark now) w ws)
      (omega (arith, fewer_await now c ws (record { waiter = at.waiter; there = rest; awaits = at.awaits })))
]

-- A waiter's mark changes.
pub has_moment : (es : List (ℕ × Waiter)) (d : Moments) (c : ℕ) (w : Waiter) → HasDeadlines es d → lookup (nat_eq c) es ≡ Some w → IsSome (moment_of d c)
has_moment es d c w h at = ap is_some (h.of c ∙ ap (option_map awaited) at)

pub found_marked : (es : List (ℕ × Waiter)) (c k : ℕ) (w : Waiter) (b : Bool) → lookup (nat_eq c) es ≡ Some w → lookup (nat_eq k) (marked_in c b es) ≡ (if nat_eq c k then Some (record w { marked = b }) else lookup (nat_eq k) es)
found_marked [] c k w b at = absurd (cc)
found_marked (e ∷ es) c k w b at = elim (eqb_tells c e.0) [
  | inl y ↦
      let here : Some e.1 ≡ Some w = rw y.0 at at in
      let is : e.1 ≡ w = cc in
      elim (eqb_tells k e.0) [
        | inl z ↦ let q : eqb c k ≡ true = eq-eqb c k (y.1 ∙ sym z.1) in rw (y.0, z.0, q) (ap (λ (u : Waiter). Some (record u { marked = b })) is)
        | inr z ↦ let q : eqb c k ≡ false = ap (λ n. eqb n k) y.1 ∙ (test_turned e.0 k ∙ z.0) in rw (y.0, z.0, q) refl
      ]
  | inr y ↦
      let rest : lookup (nat_eq c) es ≡ Some w = rw y.0 at at in
      elim (eqb_tells k e.0) [
        | inl z ↦ let q : eqb c k ≡ false = ap (eqb c) z.1 ∙ y.0 in rw (y.0, z.0, q) refl
        | inr z ↦ rw (y.0, z.0) (found_marked es c k w b rest)
      ]
]

-- The first moment of all.
none_awaits : (now : ℕ) (es : List (ℕ × Waiter)) → AllByRecursion (λ e. (m : ℕ) → awaited e.1 ≡ Some m → now < m) es → false ≡ list_any (awaits_mark now) (listed es)
none_awaits now [] all = refl
none_awaits now (e ∷ es) all = let off = awaits_none e.1.marked e.1.deadline all.0 in rw off (none_awaits now es all.1)
  where
    awaits_none : (b : Bool) (d : Option ℕ) → ((m : ℕ) → (if b then None else d) ≡ Some m → now < m) → (not b && is_due now d) ≡ false
    awaits_none true d f = refl
    awaits_none false None f = refl
    awaits_none false (Some m) f = elim (either (is_due now (Some m))) [
      | inl y ↦ let le : m ≤ now = leb-true m now y in let lt : now < m = f m refl in absurd (omega (arith, lt, le))
      | inr n ↦ n
    ]

one_awaits : (now m c : ℕ) (w : Waiter) (es : List (ℕ × Waiter)) → lookup (nat_eq c) es ≡ Some w → awaited w ≡ Some m → m ≤ now → true ≡ list_any (awaits_mark now) (listed es)
one_awaits now m c w [] at is le = absurd (cc)
one_awaits now m c w (e ∷ es) at is le = elim (eqb_tells c e.0) [
  | inl p ↦
      let here : Some e.1 ≡ Some w = rw p.0 at at in
      let same : e.1 ≡ w = cc in
      let yes : awaits_mark now (parked e.0 e.1) ≡ true = comes now m e.1 e.0 (ap awaited same ∙ is) le in
      rw yes refl
  | inr p ↦
      let rest : lookup (nat_eq c) es ≡ Some w = rw p.0 at at in
      let later = one_awaits now m c w es rest is le in
      rw (← later, or-true (awaits_mark now (parked e.0 e.1))) refl
]

-- a moment from which on somebody awaits a mark
pub first_is_earliest : (es : List (ℕ × Waiter)) (d : Moments) (o : Option ℕ) → IsDistinct nat_eq (keys_of es) → HasDeadlines es d → MatchOption o (HasNoMoment d) (λ m. IsEarliest d m) → (now : ℕ) → is_due now o ≡ list_any (awaits_mark now) (listed es)
first_is_earliest es d None apart h none now =
    none_awaits now es (each_found (λ w. (m : ℕ) → awaited w ≡ Some m → now < m) es apart (λ c w at m is. absurd (none c m (h.of c ∙ (ap (option_map awaited) at ∙ ap Some is)))))
first_is_earliest es d (Some m) apart h first now = elim (either (is_due now (Some m))) [
  | inl y ↦ y ∙ by (lookup (nat_eq first.key) es) refl (leb-true m now y)
  | inr n ↦
      let above : now < m = leb-false m now n in
      n ∙ none_awaits now es (each_found (λ w. (k : ℕ) → awaited w ≡ Some k → now < k) es apart
      (λ c w at k is. let le : m ≤ k = first.least c k (h.of c ∙ (ap (option_map awaited) at ∙ ap Some is)) in omega (arith, above, le)))
]
  where
    by : (l : Option Waiter) → lookup (nat_eq first.key) es ≡ l → m ≤ now → true ≡ list_any (awaits_mark now) (listed es)
    by None at le = absurd (let bad : Some (Some m) ≡ None = sym first.its ∙ (h.of first.key ∙ ap (option_map awaited) at) in cc)
    by (Some w) at le =
        let is : Some (awaited w) ≡ Some (Some m) = sym (ap (option_map awaited) at) ∙ (sym (h.of first.key) ∙ first.its) in
        let moment : awaited w ≡ Some m = cc in
        one_awaits now m first.key w es at moment le
