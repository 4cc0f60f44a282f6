-- What lives once the descriptions that nothing names are dead.
use Rattle.std.proofs.Common.{◌≡◌, ◌∙◌, ◌+◌, ◌<◌, ◌==◌, ◌&&◌, ◌||◌, ℕ, zero, suc, Bool, true, false, List, [], ◌∷◌, None, Option, Some, ap, arith, cond, filter, get_or, if◌then◌else◌, inl, inr, is_some, not, refl, set, subst, sym}
use Rattle.std.specs.List.{AllByRecursion}
use Rattle.std.proofs.lemmas.Bool.{cases_Bool, false≢true}
use Rattle.std.proofs.lemmas.Bool.Decides.{nat_tests}
use Rattle.std.proofs.Math.Bool.{or-true}
use Rattle.std.proofs.Math.Nat.{zero-add}
use Rattle.ep_facts.proofs.NatFacts.{less_apart, plus_none, same_nat, same_or_not, shift, test_apart}
use Rattle.ep_machine.specs.Deaths.{dying, named}
use Rattle.ep_machine.specs.Files.{Files, Place, is_live, place_of}
use Rattle.ep_law.specs.Laws.{NamedLives}
use Rattle.ep_machine.specs.Lists.{are_distinct, is_among, numbered}
use Rattle.ep_machine.specs.State.{State}
use Rattle.ep_law.proofs.DeathLemmas.{ArePlaced, after_all, after_first, apart_from_rest, get_place, numbers, raised_before, still_placed}

pub get_none : (xs : List (Option Place)) (k : ℕ) → get_or (set xs k None) k None ≡ None
get_none [] k = refl
get_none (x ∷ xs) zero = refl
get_none (x ∷ xs) (suc k) = get_none xs k

pub place_after : (f : Files) (x : ℕ × Place) (d : ℕ) → place_of (after_all f (x ∷ [])) d ≡ (if (d == x.0) || false then None else place_of f d)
place_after f x d = elim (same_or_not d x.0) [
  | inl e ↦
      subst (λ (m : ℕ). get_or (set f.descriptions x.0 None) m None ≡ (if (m == x.0) || false then None else place_of f m)) (sym e)
      (get_none f.descriptions x.0 ∙ ap (λ (b : Bool). if b || false then None else place_of f x.0) (sym (same_nat x.0)))
  | inr ne ↦
      get_place f.descriptions x.0 d None (λ e. ne (sym e)) ∙ ap (λ (b : Bool). if b || false then None else place_of f d) (sym (test_apart d x.0 ne))
]

pub if_twice : (a b : Bool) (o : Option Place) → (if b then None else (if a || false then None else o)) ≡ (if a || b then None else o)
if_twice true true o = refl
if_twice true false o = refl
if_twice false true o = refl
if_twice false false o = refl

-- the dead have no place, and the others keep theirs
pub places_left : (f : Files) (xs : List (ℕ × Place)) → are_distinct (numbers xs) ≡ true → ArePlaced f xs → (d : ℕ) → place_of (after_all f xs) d ≡ (if is_among (numbers xs) d then None else place_of f d)
places_left f [] h p d = refl
places_left f (x ∷ xs) h p d =
    let rest = apart_from_rest x xs h in
    ap (λ (g : Files). place_of g d) (after_first f x xs)
    ∙ (places_left (after_all f (x ∷ [])) xs rest.1 (still_placed f x xs rest.0 p.1) d
    ∙ (ap (λ (o : Option Place). if is_among (numbers xs) d then None else o) (place_after f x d)
    ∙ if_twice (d == x.0) (is_among (numbers xs) d) (place_of f d)))

-- Which descriptions die: those that are there and pass the test that nothing names them.
module _ (test : ℕ → Bool) where
  abbrev chosen : ℕ → List (Option Place) → List (ℕ × Place)
  chosen k ds = filter (λ (x : ℕ × Place). not (test x.0)) (numbered k ds)

  chosen_placed : (whole : List (Option Place)) (k : ℕ) (ds : List (Option Place)) → ((i : ℕ) → get_or whole (k + i) None ≡ get_or ds i None) → AllByRecursion (λ (x : ℕ × Place). get_or whole x.0 None ≡ Some x.1) (chosen k ds)
  chosen_placed whole k [] same = tt
  chosen_placed whole k (None ∷ ds) same = chosen_placed whole (k + 1) ds (λ i. ap (λ (j : ℕ). get_or whole j None) (shift k i) ∙ same (suc i))
  chosen_placed whole k (Some p ∷ ds) same =
      let rest = chosen_placed whole (k + 1) ds (λ i. ap (λ (j : ℕ). get_or whole j None) (shift k i) ∙ same (suc i)) in
      let first : get_or whole k None ≡ Some p = ap (λ (j : ℕ). get_or whole j None) (plus_none k) ∙ same 0 in
      elim (test k) as (λ b. AllByRecursion (λ (x : ℕ × Place). get_or whole x.0 None ≡ Some x.1) (cond (not b) ((k, p) ∷ chosen (k + 1) ds) (chosen (k + 1) ds))) [
        | true ↦ rest
        | false ↦ (first, rest)
      ]

  -- each chosen number is at least the first
  chosen_from : (k : ℕ) (ds : List (Option Place)) (d : ℕ) → d < k → is_among (numbers (chosen k ds)) d ≡ false
  chosen_from k [] d lt = refl
  chosen_from k (None ∷ ds) d lt = chosen_from (k + 1) ds d (omega (arith, lt))
  chosen_from k (Some p ∷ ds) d lt =
      let rest = chosen_from (k + 1) ds d (omega (arith, lt)) in
      elim (test k) as (λ b. is_among (numbers (cond (not b) ((k, p) ∷ chosen (k + 1) ds) (chosen (k + 1) ds))) d ≡ false) [
        | true ↦ rest
        | false ↦ ap (λ (b : Bool). b || is_among (numbers (chosen (k + 1) ds)) d) (test_apart d k (λ e. less_apart d k lt e)) ∙ rest
      ]

  chosen_distinct : (k : ℕ) (ds : List (Option Place)) → are_distinct (numbers (chosen k ds)) ≡ true
  chosen_distinct k [] = refl
  chosen_distinct k (None ∷ ds) = chosen_distinct (k + 1) ds
  chosen_distinct k (Some p ∷ ds) =
      let rest = chosen_distinct (k + 1) ds in
      let out = chosen_from (k + 1) ds k (next k) in
      elim (test k) as (λ b. are_distinct (numbers (cond (not b) ((k, p) ∷ chosen (k + 1) ds) (chosen (k + 1) ds))) ≡ true) [
        | true ↦ rest
        | false ↦ (λ i. not (out i) && rest i)
      ] where
        next : (a : ℕ) → a < a + 1
        next a = omega arith

  not_test : (d : ℕ) (xs : List (ℕ × Place)) → is_among (numbers (filter (λ (x : ℕ × Place). not (test x.0)) xs)) d ≡ true → test d ≡ false
  not_test d [] h = absurd (false≢true h)
  not_test d (x ∷ xs) h = of_test (test x.0) refl h (λ e. not_test d xs e) where
    of_first : (b : Bool) → (d == x.0) ≡ b → test x.0 ≡ false → (b || is_among (numbers (filter (λ (y : ℕ × Place). not (test y.0)) xs)) d) ≡ true
        → (is_among (numbers (filter (λ (y : ℕ × Place). not (test y.0)) xs)) d ≡ true → test d ≡ false) → test d ≡ false
    of_first true e f g more = ap test (grind (arith, nat_tests, e)) ∙ f
    of_first false e f g more = more g

    of_test : (b : Bool) → test x.0 ≡ b → is_among (numbers (cond (not b) (x ∷ filter (λ (y : ℕ × Place). not (test y.0)) xs) (filter (λ (y : ℕ × Place). not (test y.0)) xs))) d ≡ true
        → (is_among (numbers (filter (λ (y : ℕ × Place). not (test y.0)) xs)) d ≡ true → test d ≡ false) → test d ≡ false
    of_test true e g more = more g
    of_test false e g more = of_first (d == x.0) refl e g more

  is_chosen : (k : ℕ) (ds : List (Option Place)) (i : ℕ) → is_some (get_or ds i None) ≡ true → test (k + i) ≡ false → is_among (numbers (chosen k ds)) (k + i) ≡ true
  is_chosen k [] i live h = absurd (false≢true live)
  is_chosen k (None ∷ ds) zero live h = absurd (false≢true live)
  is_chosen k (None ∷ ds) (suc i) live h = subst (λ (j : ℕ). is_among (numbers (chosen (k + 1) ds)) j ≡ true) (shift k i) (is_chosen (k + 1) ds i live (ap test (shift k i) ∙ h))
  is_chosen k (Some p ∷ ds) zero live h =
      let e : test k ≡ false = ap test (plus_none k) ∙ h in
      ap (λ (b : Bool). is_among (numbers (cond (not b) ((k, p) ∷ chosen (k + 1) ds) (chosen (k + 1) ds))) (k + 0)) e
      ∙ ap (λ (b : Bool). b || is_among (numbers (chosen (k + 1) ds)) (k + 0)) (same_start k) where
        same_start : (a : ℕ) → (a + 0 == a) ≡ true
        same_start a = ap (λ (n : ℕ). n == a) (sym (plus_none a)) ∙ same_nat a
  is_chosen k (Some p ∷ ds) (suc i) live h =
      let rest = subst (λ (j : ℕ). is_among (numbers (chosen (k + 1) ds)) j ≡ true) (shift k i) (is_chosen (k + 1) ds i live (ap test (shift k i) ∙ h)) in
      elim (test k) as (λ b. is_among (numbers (cond (not b) ((k, p) ∷ chosen (k + 1) ds) (chosen (k + 1) ds))) (k + suc i) ≡ true) [
        | true ↦ rest
        | false ↦ ap (λ (b : Bool). (k + suc i == k) || b) rest ∙ or-true (k + suc i == k)
      ]

-- the dying of a state
module _ (s : State) where
  pub dying_placed : ArePlaced s.files (dying s)
  dying_placed = chosen_placed (is_among (named s)) s.files.descriptions 0 s.files.descriptions (λ i. ap (λ (j : ℕ). get_or s.files.descriptions j None) (zero-add i))

  pub dying_distinct : are_distinct (numbers (dying s)) ≡ true
  dying_distinct = chosen_distinct (is_among (named s)) 0 s.files.descriptions

  pub dying_unnamed : (d : ℕ) → is_among (numbers (dying s)) d ≡ true → is_among (named s) d ≡ false
  dying_unnamed d h = not_test (is_among (named s)) d (numbered 0 s.files.descriptions) h

  pub unnamed_dying : (d : ℕ) → is_live s.files d ≡ true → is_among (named s) d ≡ false → is_among (numbers (dying s)) d ≡ true
  unnamed_dying d live h = subst (λ (j : ℕ). is_among (numbers (dying s)) j ≡ true) (zero-add d) (is_chosen (is_among (named s)) 0 s.files.descriptions d live (ap (is_among (named s)) (zero-add d) ∙ h))

not_live : (b : Bool) (o : Option Place) → is_some o ≡ false → is_some (if b then None else o) ≡ false
not_live true o h = refl
not_live false o h = h

-- where what is named lives
module _ (s : State) (lives : (d : ℕ) → is_among (named s) d ≡ true → is_live s.files d ≡ true) where
  left : (d : ℕ) → place_of (after_all s.files (dying s)) d ≡ (if is_among (numbers (dying s)) d then None else place_of s.files d)
  left = places_left s.files (dying s) (dying_distinct s) (dying_placed s)

  pub live_left : (d : ℕ) → is_live (after_all s.files (dying s)) d ≡ is_among (named s) d
  live_left d = ap is_some (left d) ∙ elim (cases_Bool (is_among (named s) d)) [
    | inl holds ↦
        let stays : is_among (numbers (dying s)) d ≡ false = elim (cases_Bool (is_among (numbers (dying s)) d)) [
          | inl dies ↦ absurd (false≢true (sym (dying_unnamed s d dies) ∙ holds))
          | inr stays ↦ stays
        ] in
        ap (λ (b : Bool). is_some (if b then None else place_of s.files d)) stays ∙ (lives d holds ∙ sym holds)
    | inr fails ↦
        elim (cases_Bool (is_live s.files d)) [
          | inl here ↦ ap (λ (b : Bool). is_some (if b then None else place_of s.files d)) (unnamed_dying s d here fails) ∙ sym fails
          | inr dead ↦ not_live (is_among (numbers (dying s)) d) (place_of s.files d) dead ∙ sym fails
        ]
  ]

pub named_lives : NamedLives
named_lives s raised lives d = ap (λ (f : Files). is_live f d) (raised_before s.files raised (dying s)) ∙ live_left s lives d
