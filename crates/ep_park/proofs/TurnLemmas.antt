-- Marks in turn are the machine's marks.
use Rattle.std.proofs.Common.{◌≡◌, ℕ, Bool, true, false, not, ◌||◌, ◌&&◌, ◌==◌, List, [], ◌∷◌, refl, sym, ap, ◌∙◌, inl, inr, eqb}
use Rattle.std.proofs.Math.Bool.{and-false, and-true, or-false, or-true}
use Rattle.std.proofs.lemmas.Bool.{eq-eqb}
use Rattle.std.proofs.lemmas.Bool.Decides.{eqb_tells}
use Rattle.std.specs.List.{list_any}
use Rattle.ep_facts.proofs.NatFacts.{test_turned}
use Rattle.ep_machine.specs.Marks.{first_marked as first_of_each}
use Rattle.ep_machine.specs.State.{Waiter as Parked}
use Rattle.ep_machine.specs.Waits.{is_marked_at, waits_at}
use Rattle.ep_park.proofs.ViewLemmas.{either}
use Rattle.ep_park.specs.Turns.{NamesReady, NamesUnmarked, marked_in_turn}
use Rattle.ep_park.specs.Waiters.{first_marked, longest_marked}

-- the first of each instance that passes the test is marked
abbrev first_by : (ℕ → Bool) → List Parked → List Parked → List Parked
first_by r before [] = []
first_by r before (w ∷ ws) = record w { marked = w.marked || (not (waits_at before w.instance) && r w.instance) } ∷ first_by r (w ∷ before) ws

joined : (m b r q : Bool) → ((m || (b && r)) || (b && q)) ≡ (m || (b && (r || q)))
joined true b r q = refl
joined false false r q = refl
joined false true r q = refl

grouped : (m b r q : Bool) → (m || ((b && r) && q)) ≡ (m || (b && (r && q)))
grouped true b r q = refl
grouped false false r q = refl
grouped false true r q = refl

as_machine : (ready : ℕ → Bool) (all before ws : List Parked) → first_by (λ e. not (is_marked_at all e) && ready e) before ws ≡ first_of_each ready all before ws
as_machine ready all before [] = refl
as_machine ready all before (w ∷ ws) = λ j. record w { marked = sym (grouped w.marked (not (waits_at before w.instance)) (not (is_marked_at all w.instance)) (ready w.instance)) j } ∷ as_machine ready all (w ∷ before) ws j

twice : (q r : ℕ → Bool) (after before ws : List Parked) → ((e : ℕ) → waits_at after e ≡ waits_at before e) → first_by q after (first_by r before ws) ≡ first_by (λ e. r e || q e) before ws
twice q r after before [] same = refl
twice q r after before (w ∷ ws) same =
    let e = w.instance in
    let head : (w.marked || (not (waits_at before e) && r e)) || (not (waits_at after e) && q e) ≡ (w.marked || (not (waits_at before e) && (r e || q e))) =
    ap (λ b. (w.marked || (not (waits_at before e) && r e)) || (not b && q e)) (same e) ∙ joined w.marked (not (waits_at before e)) (r e) (q e) in
    λ j. record w { marked = head j } ∷ twice q r (record w { marked = w.marked || (not (waits_at before e) && r e) } ∷ after) (w ∷ before) ws (λ x. ap (λ b. (e == x) || b) (same x)) j

alike : (q r : ℕ → Bool) (before ws : List Parked) → ((e : ℕ) → waits_at ws e ≡ true → q e ≡ r e) → first_by q before ws ≡ first_by r before ws
alike q r before [] same = refl
alike q r before (w ∷ ws) same =
    let here : waits_at (w ∷ ws) w.instance ≡ true = ap (λ b. b || waits_at ws w.instance) (eq-eqb w.instance w.instance refl) in
    λ j. record w { marked = w.marked || (not (waits_at before w.instance) && same w.instance here j) } ∷ alike q r (w ∷ before) ws (λ e there. same e (ap (λ b. (w.instance == e) || b) there ∙ or-true (w.instance == e))) j

none_by : (r : ℕ → Bool) (before ws : List Parked) → ((e : ℕ) → r e ≡ false) → first_by r before ws ≡ ws
none_by r before [] off = refl
none_by r before (w ∷ ws) off =
    let b = not (waits_at before w.instance) in
    let head : (w.marked || (b && r w.instance)) ≡ w.marked = ap (λ x. w.marked || (b && x)) (off w.instance) ∙ (ap (λ x. w.marked || x) (and-false b) ∙ or-false w.marked) in
    λ j. record w { marked = head j } ∷ none_by r (w ∷ before) ws off j

-- one was parked earlier, so nobody is marked
later : (e : ℕ) (before ws : List Parked) → waits_at before e ≡ true → first_by (λ x. x == e) before ws ≡ ws
later e before [] there = refl
later e before (w ∷ ws) there =
    let b = waits_at before w.instance in
    let head : (w.marked || (not b && (w.instance == e))) ≡ w.marked = elim (eqb_tells w.instance e) [
      | inl p ↦ let had : b ≡ true = ap (waits_at before) p.1 ∙ there in rw had (or-false w.marked)
      | inr p ↦ rw (p.0, and-false (not b)) (or-false w.marked)
    ] in
    λ j. record w { marked = head j } ∷ later e (w ∷ before) ws (ap (λ x. (w.instance == e) || x) there ∙ or-true (w.instance == e)) j

one_by : (e : ℕ) (before ws : List Parked) → waits_at before e ≡ false → first_marked e ws ≡ first_by (λ x. x == e) before ws
one_by e before [] off = refl
one_by e before (w ∷ ws) off = elim (eqb_tells w.instance e) [
  | inl p ↦
      let had : waits_at before w.instance ≡ false = ap (waits_at before) p.1 ∙ off in
      let rest : first_by (λ x. x == e) (w ∷ before) ws ≡ ws = later e (w ∷ before) ws (ap (λ b. b || waits_at before e) p.0) in
      rw (p.0, had, or-true w.marked) (ap (λ xs. record w { marked = true } ∷ xs) (sym rest))
  | inr p ↦
      let rest = one_by e (w ∷ before) ws (ap (λ b. b || waits_at before e) p.0 ∙ off) in
      rw (p.0, and-false (not (waits_at before w.instance)), or-false w.marked) (ap (λ xs. w ∷ xs) rest)
]

longest_by : (e : ℕ) (ws : List Parked) → longest_marked e ws ≡ first_by (λ x. (x == e) && not (is_marked_at ws e)) [] ws
longest_by e ws = elim (either (is_marked_at ws e)) [
  | inl y ↦ rw y (sym (none_by (λ x. (x == e) && false) [] ws (λ x. and-false (x == e))))
  | inr n ↦ rw n (one_by e [] ws refl ∙ sym (alike (λ x. (x == e) && true) (λ x. x == e) [] ws (λ x there. and-true (x == e))))
]

-- a mark at one instance is none at another
first_apart : (e x : ℕ) (ws : List Parked) → eqb x e ≡ false → is_marked_at (first_marked e ws) x ≡ is_marked_at ws x
first_apart e x [] off = refl
first_apart e x (w ∷ ws) off = elim (eqb_tells w.instance e) [
  | inl p ↦ let other : eqb w.instance x ≡ false = test_turned w.instance x ∙ (ap (eqb x) p.1 ∙ off) in rw (p.0, other) refl
  | inr p ↦ rw p.0 (ap (λ b. ((w.instance == x) && w.marked) || b) (first_apart e x ws off))
]

apart : (e x : ℕ) (ws : List Parked) → eqb x e ≡ false → is_marked_at (longest_marked e ws) x ≡ is_marked_at ws x
apart e x ws off = elim (either (is_marked_at ws e)) [ inl y ↦ rw y refl | inr n ↦ rw n (first_apart e x ws off) ]

in_turn : (es : List ℕ) (ws : List Parked) → marked_in_turn es ws ≡ first_by (λ x. not (is_marked_at ws x) && list_any (λ y. x == y) es) [] ws
in_turn [] ws = sym (none_by (λ x. not (is_marked_at ws x) && false) [] ws (λ x. and-false (not (is_marked_at ws x))))
in_turn (e ∷ es) ws =
    let ws' = longest_marked e ws in
    let q = λ (x : ℕ). not (is_marked_at ws' x) && list_any (λ y. x == y) es in
    let r = λ (x : ℕ). (x == e) && not (is_marked_at ws e) in
    in_turn es ws'
    ∙ (ap (first_by q []) (longest_by e ws)
    ∙ (twice q r [] [] ws (λ x. refl)
    ∙ alike (λ x. r x || q x) (λ x. not (is_marked_at ws x) && ((x == e) || list_any (λ y. x == y) es)) [] ws (λ x there. both x)))
  where
    both : (x : ℕ) → (((x == e) && not (is_marked_at ws e)) || (not (is_marked_at (longest_marked e ws) x) && list_any (λ y. x == y) es)) ≡ (not (is_marked_at ws x) && ((x == e) || list_any (λ y. x == y) es))
    both x = elim (eqb_tells x e) [
      | inl p ↦ elim (either (is_marked_at ws e)) [
        | inl y ↦ let here : is_marked_at ws x ≡ true = ap (is_marked_at ws) p.1 ∙ y in rw (p.0, y, here) refl
        | inr n ↦ let here : is_marked_at ws x ≡ false = ap (is_marked_at ws) p.1 ∙ n in rw (p.0, n, here) refl
      ]
      | inr p ↦ rw (p.0, apart e x ws p.0) refl
    ]

pub marks_agree_unmarked : (ready : ℕ → Bool) (ws : List Parked) (es : List ℕ) → NamesUnmarked ready ws es → marked_in_turn es ws ≡ first_of_each ready ws [] ws
marks_agree_unmarked ready ws es names =
    in_turn es ws
    ∙ (alike (λ x. not (is_marked_at ws x) && list_any (λ y. x == y) es) (λ x. not (is_marked_at ws x) && ready x) [] ws
    (λ x there. elim (either (is_marked_at ws x)) [
      | inl marked ↦ rw marked refl
      | inr off ↦ ap (λ b. not (is_marked_at ws x) && b) (sym (names x there off))
    ])
    ∙ as_machine ready ws [] ws)

pub marks_agree : (ready : ℕ → Bool) (ws : List Parked) (es : List ℕ) → NamesReady ready ws es → marked_in_turn es ws ≡ first_of_each ready ws [] ws
marks_agree ready ws es names = marks_agree_unmarked ready ws es (λ e there off. names e there)
