-- Descriptions that die in any order leave the same files.
use Rattle.std.proofs.Common.{◌≡◌, ◌≢◌, ◌∙◌, ◌+◌, ◌==◌, ◌&&◌, ◌||◌, ℕ, zero, suc, Bool, true, false, List, [], ◌∷◌, None, Option, Some, ap, cond, filter, get_or, if◌then◌else◌, inl, inr, map, not, refl, set, subst, sym, unwrap_or}
use Rattle.std.specs.List.{AllByRecursion, list_any}
use Rattle.std.proofs.lemmas.Bool.{false≢true}
use Rattle.std.proofs.lemmas.List.{set_comm}
use Rattle.std.proofs.Math.Bool.{or-true}
use Rattle.ep_facts.proofs.BoolFacts.{both_true, first_of_or, from_not, second_of_or}
use Rattle.ep_facts.proofs.NatFacts.{from_test, same_nat, same_or_not, test_apart}
use Rattle.ep_base.specs.declared.object.End.{End}
use Rattle.ep_machine.specs.Deaths.{die, die_all}
use Rattle.ep_machine.specs.Files.{Files, Place, place_of}
use Rattle.ep_machine.specs.Lists.{are_distinct, is_among, numbered}
use Rattle.ep_machine.specs.Objects.{Object, close_end, is_waiting, plain}
use Rattle.ep_object.proofs.KindLemmas.{closes_commute}

-- Lists.
set_twice : (xs : List (Option Object)) (k : ℕ) (a b : Option Object) → set (set xs k a) k b ≡ set xs k b
set_twice [] k a b = refl
set_twice (x ∷ xs) zero a b = refl
set_twice (x ∷ xs) (suc k) a b = ap (λ (ys : List (Option Object)). x ∷ ys) (set_twice xs k a b)

-- what is written by what stands there
set_of_set : (xs : List (Option Object)) (k : ℕ) (a : Option Object) (f : Option Object → Option Object) → set xs k (f (get_or (set xs k a) k None)) ≡ set xs k (f a)
set_of_set [] k a f = refl
set_of_set (x ∷ xs) zero a f = refl
set_of_set (x ∷ xs) (suc k) a f = ap (λ (ys : List (Option Object)). x ∷ ys) (set_of_set xs k a f)

pub get_other : (xs : List (Option Object)) (k j : ℕ) (a : Option Object) → k ≢ j → get_or (set xs k a) j None ≡ get_or xs j None
get_other [] k j a h = refl
get_other (x ∷ xs) zero zero a h = absurd (h refl)
get_other (x ∷ xs) zero (suc j) a h = refl
get_other (x ∷ xs) (suc k) zero a h = refl
get_other (x ∷ xs) (suc k) (suc j) a h = get_other xs k j a (λ e. h (ap suc e))

pub get_place : (xs : List (Option Place)) (k j : ℕ) (a : Option Place) → k ≢ j → get_or (set xs k a) j None ≡ get_or xs j None
get_place [] k j a h = refl
get_place (x ∷ xs) zero zero a h = absurd (h refl)
get_place (x ∷ xs) zero (suc j) a h = refl
get_place (x ∷ xs) (suc k) zero a h = refl
get_place (x ∷ xs) (suc k) (suc j) a h = get_place xs k j a (λ e. h (ap suc e))

-- a description of this object is among these
abbrev pub has_one : ℕ → ℕ → List (Option Place) → Bool
has_one k from ds = list_any (λ y. y.1.object == k) (numbered from ds)

-- the death of a description of another object leaves it
has_other : (k from at : ℕ) (ds : List (Option Place)) (p : Place) → get_or ds at None ≡ Some p → p.object ≢ k → has_one k from (set ds at None) ≡ has_one k from ds
has_other k from at [] p is h = refl
has_other k from zero (None ∷ ds) p is h = refl
has_other k from zero (Some q ∷ ds) p is h =
    let same : q ≡ p = cc in
    let e : (q.object == k) ≡ false = ap (λ (r : Place). r.object == k) same ∙ test_apart p.object k h in
    ap (λ (b : Bool). b || has_one k (from + 1) ds) (sym e)
has_other k from (suc at) (None ∷ ds) p is h = has_other k (from + 1) at ds p is h
has_other k from (suc at) (Some q ∷ ds) p is h = ap (λ (b : Bool). (q.object == k) || b) (has_other k (from + 1) at ds p is h)

-- a description that is there keeps its object
pub has_here : (k from at : ℕ) (ds : List (Option Place)) (p : Place) → get_or ds at None ≡ Some p → p.object ≡ k → has_one k from ds ≡ true
has_here k from at [] p is h = cc
has_here k from zero (None ∷ ds) p is h = cc
has_here k from zero (Some q ∷ ds) p is h =
    let same : q ≡ p = cc in
    let e : (q.object == k) ≡ true = ap (λ (r : Place). r.object == k) same ∙ (ap (λ (n : ℕ). n == k) h ∙ same_nat k) in
    ap (λ (b : Bool). b || has_one k (from + 1) ds) e
has_here k from (suc at) (None ∷ ds) p is h = has_here k (from + 1) at ds p is h
has_here k from (suc at) (Some q ∷ ds) p is h = ap (λ (b : Bool). (q.object == k) || b) (has_here k (from + 1) at ds p is h) ∙ or-true (q.object == k)

-- Two deaths.
module _ (s : Files) (x y : ℕ × Place) (apart : x.0 ≢ y.0) (x_is : place_of s x.0 ≡ Some x.1) (y_is : place_of s y.0 ≡ Some y.1) where
  abbrev ds : List (Option Place)
  ds = s.descriptions

  abbrev without_x : List (Option Place)
  without_x = set ds x.0 None

  abbrev left : List (Option Place)
  left = set without_x y.0 None

  abbrev content : ℕ → Object
  content k = unwrap_or (get_or s.objects k None) plain

  abbrev shut : ℕ → End → Object
  shut k e = (close_end (content k) e).0

  -- the objects once the first has died, and then the second
  abbrev keeps : List (Option Place) → ℕ → Object → Option Object
  keeps rest k o = if has_one k 0 rest || is_waiting o then Some o else None

  abbrev once : List (Option Object)
  once = set s.objects x.1.object (keeps without_x x.1.object (shut x.1.object x.1.side))

  abbrev twice : List (Option Object)
  twice = set once y.1.object (keeps left y.1.object (close_end (unwrap_or (get_or once y.1.object None) plain) y.1.side).0)

  y_stays : get_or without_x y.0 None ≡ Some y.1
  y_stays = get_place ds x.0 y.0 None apart ∙ y_is

  -- of two objects
  pub of_two : x.1.object ≢ y.1.object → twice ≡ set (set s.objects x.1.object (keeps left x.1.object (shut x.1.object x.1.side))) y.1.object (keeps left y.1.object (shut y.1.object y.1.side))
  of_two other =
      let first_kept : has_one x.1.object 0 left ≡ has_one x.1.object 0 without_x = has_other x.1.object 0 y.0 without_x y.1 y_stays (λ e. other (sym e)) in
      let found = get_other s.objects x.1.object y.1.object (keeps without_x x.1.object (shut x.1.object x.1.side)) other in
      (λ i. set once y.1.object (keeps left y.1.object (close_end (unwrap_or (found i) plain) y.1.side).0))
      ∙ ap (λ (b : Bool). set (set s.objects x.1.object (if b || is_waiting (shut x.1.object x.1.side) then Some (shut x.1.object x.1.side) else None)) y.1.object (keeps left y.1.object (shut y.1.object y.1.side))) (sym first_kept)

  -- of the two ends of one
  pub of_one : y.1.object ≡ x.1.object → twice ≡ set s.objects x.1.object (keeps left x.1.object (close_end (shut x.1.object x.1.side) y.1.side).0)
  of_one same =
      let k = x.1.object in
      let f : Option Object → Option Object = λ o. keeps left k (close_end (unwrap_or o plain) y.1.side).0 in
      let there : has_one k 0 without_x ≡ true = has_here k 0 y.0 without_x y.1 y_stays same in
      let first_kept : once ≡ set s.objects k (Some (shut k x.1.side)) = ap (λ (b : Bool). set s.objects k (if b || is_waiting (shut k x.1.side) then Some (shut k x.1.side) else None)) there in
      (λ i. set once (same i) (keeps left (same i) (close_end (unwrap_or (get_or once (same i) None) plain) y.1.side).0))
      ∙ (ap (λ (os : List (Option Object)). set os k (f (get_or os k None))) first_kept
      ∙ (set_twice s.objects k (Some (shut k x.1.side)) (f (get_or (set s.objects k (Some (shut k x.1.side))) k None))
      ∙ set_of_set s.objects k (Some (shut k x.1.side)) f))

-- in either order
module _ (s : Files) (x y : ℕ × Place) (apart : x.0 ≢ y.0) (x_is : place_of s x.0 ≡ Some x.1) (y_is : place_of s y.0 ≡ Some y.1) where
  abbrev here : List (Option Place)
  here = set (set s.descriptions x.0 None) y.0 None

  abbrev there : List (Option Place)
  there = set (set s.descriptions y.0 None) x.0 None

  moved : here ≡ there
  moved = set_comm s.descriptions x.0 y.0 None None apart

  other_way : y.0 ≢ x.0
  other_way = λ e. apart (sym e)

  objects_two : x.1.object ≢ y.1.object → twice s x y apart x_is y_is ≡ twice s y x other_way y_is x_is
  objects_two other =
      let a = keeps s x y apart x_is y_is here x.1.object (shut s x y apart x_is y_is x.1.object x.1.side) in
      let b = keeps s x y apart x_is y_is here y.1.object (shut s x y apart x_is y_is y.1.object y.1.side) in
      of_two s x y apart x_is y_is other
      ∙ (set_comm s.objects x.1.object y.1.object a b other
      ∙ ((λ i. set (set s.objects y.1.object (keeps s x y apart x_is y_is (moved i) y.1.object (shut s x y apart x_is y_is y.1.object y.1.side))) x.1.object (keeps s x y apart x_is y_is (moved i) x.1.object (shut s x y apart x_is y_is x.1.object x.1.side)))
      ∙ sym (of_two s y x other_way y_is x_is (λ e. other (sym e)))))

  objects_one : y.1.object ≡ x.1.object → twice s x y apart x_is y_is ≡ twice s y x other_way y_is x_is
  objects_one same =
      let keep : List (Option Place) → ℕ → Object → List (Option Object) = λ rest k o. set s.objects k (keeps s x y apart x_is y_is rest k o) in
      let o = unwrap_or (get_or s.objects x.1.object None) plain in
      of_one s x y apart x_is y_is same
      ∙ ((λ i. keep (moved i) x.1.object (closes_commute o x.1.side y.1.side i))
      ∙ ((λ i. keep there (sym same i) (close_end (close_end (unwrap_or (get_or s.objects (sym same i) None) plain) y.1.side).0 x.1.side).0)
      ∙ sym (of_one s y x other_way y_is x_is (sym same))))

  objects_same : twice s x y apart x_is y_is ≡ twice s y x other_way y_is x_is
  objects_same = elim (same_or_not x.1.object y.1.object) [ inl e ↦ objects_one (sym e) | inr ne ↦ objects_two ne ]

  pub two_deaths : (die_all (s, []) (x ∷ y ∷ [])).0 ≡ (die_all (s, []) (y ∷ x ∷ [])).0
  two_deaths = λ i. record s { descriptions = moved i; objects = objects_same i }

-- Lists of the dead.
abbrev pub numbers : List (ℕ × Place) → List ℕ
numbers xs = map (λ x. x.0) xs

abbrev pub after_all : Files → List (ℕ × Place) → Files
after_all s xs = (die_all (s, []) xs).0

-- what was raised before plays no part
pub raised_before : (s : Files) (r : List (ℕ × ℕ)) (xs : List (ℕ × Place)) → (die_all (s, r) xs).0 ≡ after_all s xs
raised_before s r [] = refl
raised_before s r (x ∷ xs) = raised_before (die (s, r) x).0 (die (s, r) x).1 xs ∙ sym (raised_before (die (s, []) x).0 (die (s, []) x).1 xs)

pub after_first : (s : Files) (x : ℕ × Place) (xs : List (ℕ × Place)) → after_all s (x ∷ xs) ≡ after_all (after_all s (x ∷ [])) xs
after_first s x xs = raised_before (die (s, []) x).0 (die (s, []) x).1 xs

-- each is at its place
abbrev pub ArePlaced : Files → List (ℕ × Place) → Type 0
ArePlaced s xs = AllByRecursion (λ x. place_of s x.0 ≡ Some x.1) xs

not_among : (k : ℕ) (x : ℕ × Place) (xs : List (ℕ × Place)) → is_among (numbers (x ∷ xs)) k ≡ false → (k ≢ x.0) × (is_among (numbers xs) k ≡ false)
not_among k x xs h =
    let first : (k == x.0) ≡ false = first_of_or (k == x.0) (is_among (numbers xs) k) h in
    let rest = second_of_or (k == x.0) (is_among (numbers xs) k) h in
    (λ e. false≢true (sym first ∙ (ap (λ (n : ℕ). k == n) (sym e) ∙ same_nat k)), rest)

pub still_placed : (s : Files) (x : ℕ × Place) (xs : List (ℕ × Place)) → is_among (numbers xs) x.0 ≡ false → ArePlaced s xs → ArePlaced (after_all s (x ∷ [])) xs
still_placed s x [] h p = tt
still_placed s x (y ∷ ys) h p =
    let out = not_among x.0 y ys h in
    (get_place s.descriptions x.0 y.0 None out.0 ∙ p.0, still_placed s x ys out.1 p.1)

abbrev without : ℕ → List (ℕ × Place) → List (ℕ × Place)
without k xs = filter (λ x. not (x.0 == k)) xs

without_none : (k : ℕ) (xs : List (ℕ × Place)) → is_among (numbers xs) k ≡ false → without k xs ≡ xs
without_none k [] h = refl
without_none k (x ∷ xs) h =
    let out = not_among k x xs h in
    let e : (x.0 == k) ≡ false = test_apart x.0 k (λ i. out.0 (sym i)) in
    ap (λ (b : Bool). cond (not b) (x ∷ without k xs) (without k xs)) e ∙ ap (λ (ys : List (ℕ × Place)). x ∷ ys) (without_none k xs out.1)

-- the first two change places
front_moved : (s : Files) (x y : ℕ × Place) (rest : List (ℕ × Place)) → x.0 ≢ y.0 → place_of s x.0 ≡ Some x.1 → place_of s y.0 ≡ Some y.1 → after_all s (x ∷ y ∷ rest) ≡ after_all s (y ∷ x ∷ rest)
front_moved s x y rest apart x_is y_is =
    let both : (a b : ℕ × Place) → after_all s (a ∷ b ∷ rest) ≡ after_all (after_all s (a ∷ b ∷ [])) rest = λ a b. raised_before (die_all (s, []) (a ∷ b ∷ [])).0 (die_all (s, []) (a ∷ b ∷ [])).1 rest in
    both x y ∙ (ap (λ (f : Files). after_all f rest) (two_deaths s x y apart x_is y_is) ∙ sym (both y x))

pub apart_from_rest : (x : ℕ × Place) (xs : List (ℕ × Place)) → are_distinct (numbers (x ∷ xs)) ≡ true → (is_among (numbers xs) x.0 ≡ false) × (are_distinct (numbers xs) ≡ true)
apart_from_rest x xs h = let both = both_true _ _ h in (from_not _ both.0, both.1)

in_rest : (k : ℕ) (y : ℕ × Place) (ys : List (ℕ × Place)) → y.0 ≢ k → is_among (numbers (y ∷ ys)) k ≡ true → is_among (numbers ys) k ≡ true
in_rest k y ys ne h = let e = test_apart k y.0 (λ i. ne (sym i)) in ap (λ (b : Bool). b || is_among (numbers ys) k) (sym e) ∙ h

same_place : (s : Files) (x y : ℕ × Place) → place_of s x.0 ≡ Some x.1 → place_of s y.0 ≡ Some y.1 → y.0 ≡ x.0 → y ≡ x
same_place s x y x_is y_is e =
    let both : Some y.1 ≡ Some x.1 = sym y_is ∙ (ap (λ (k : ℕ). place_of s k) e ∙ x_is) in
    let p : y.1 ≡ x.1 = cc in λ i. (e i, p i)

to_front : (s : Files) (x : ℕ × Place) (ys : List (ℕ × Place)) → are_distinct (numbers ys) ≡ true → ArePlaced s ys → place_of s x.0 ≡ Some x.1 → is_among (numbers ys) x.0 ≡ true → after_all s ys ≡ after_all s (x ∷ without x.0 ys)
to_front s x [] d p x_is h = absurd (false≢true h)
to_front s x (y ∷ ys) d p x_is h =
    let rest = apart_from_rest y ys d in
    elim (same_or_not y.0 x.0) [
      | inl e ↦
          let same = same_place s x y x_is p.0 e in
          let gone : without x.0 (y ∷ ys) ≡ ys =
          ap (λ (b : Bool). cond (not b) (y ∷ without x.0 ys) (without x.0 ys)) (ap (λ (k : ℕ). k == x.0) e ∙ same_nat x.0)
          ∙ without_none x.0 ys (ap (λ (k : ℕ). is_among (numbers ys) k) (sym e) ∙ rest.0) in
          (λ i. after_all s (same i ∷ sym gone i))
      | inr ne ↦
          let kept : without x.0 (y ∷ ys) ≡ y ∷ without x.0 ys = ap (λ (b : Bool). cond (not b) (y ∷ without x.0 ys) (without x.0 ys)) (test_apart y.0 x.0 ne) in
          let t = after_all s (y ∷ []) in
          let later = to_front t x ys rest.1 (still_placed s y ys rest.0 p.1) (get_place s.descriptions y.0 x.0 None ne ∙ x_is) (in_rest x.0 y ys ne h) in
          after_first s y ys
          ∙ (later
          ∙ (sym (after_first s y (x ∷ without x.0 ys))
          ∙ (front_moved s y x (without x.0 ys) ne p.0 x_is
          ∙ ap (λ (zs : List (ℕ × Place)). after_all s (x ∷ zs)) (sym kept))))
    ]

among_without : (k d : ℕ) (ys : List (ℕ × Place)) → is_among (numbers (without k ys)) d ≡ (not (d == k) && is_among (numbers ys) d)
among_without k d [] = and_false (not (d == k)) where
  and_false : (b : Bool) → false ≡ (b && false)
  and_false true = refl
  and_false false = refl
among_without k d (y ∷ ys) = elim (same_or_not y.0 k) [
  | inl e ↦
      ap (λ (b : Bool). is_among (numbers (cond (not b) (y ∷ without k ys) (without k ys))) d) (ap (λ (n : ℕ). n == k) e ∙ same_nat k)
      ∙ (among_without k d ys ∙ (of_same (d == k) (is_among (numbers ys) d) ∙ ap (λ (n : ℕ). not (d == k) && ((d == n) || is_among (numbers ys) d)) (sym e)))
  | inr ne ↦
      ap (λ (b : Bool). is_among (numbers (cond (not b) (y ∷ without k ys) (without k ys))) d) (test_apart y.0 k ne)
      ∙ (ap (λ (b : Bool). (d == y.0) || b) (among_without k d ys) ∙ of_other (d == y.0) (d == k) (is_among (numbers ys) d) (λ a b. ne (sym (from_test d y.0 a) ∙ from_test d k b)))
] where
  of_same : (a b : Bool) → (not a && b) ≡ (not a && (a || b))
  of_same true b = refl
  of_same false b = refl

  of_other : (a b c : Bool) → (a ≡ true → b ≡ true → ⊥) → (a || (not b && c)) ≡ (not b && (a || c))
  of_other true true c h = absurd (h refl refl)
  of_other true false c h = refl
  of_other false b c h = refl

distinct_without : (k : ℕ) (ys : List (ℕ × Place)) → are_distinct (numbers ys) ≡ true → are_distinct (numbers (without k ys)) ≡ true
distinct_without k [] h = refl
distinct_without k (y ∷ ys) h =
    let rest = apart_from_rest y ys h in
    let more = distinct_without k ys rest.1 in
    elim (y.0 == k) as (λ b. are_distinct (numbers (cond (not b) (y ∷ without k ys) (without k ys))) ≡ true) [
      | true ↦ more
      | false ↦ (λ i. not (among_without k y.0 ys i) && more i) ∙ ap (λ (b : Bool). not (not (y.0 == k) && b) && true) rest.0 ∙ last (not (y.0 == k))
    ] where
      last : (b : Bool) → (not (b && false) && true) ≡ true
      last true = refl
      last false = refl

placed_without : (s : Files) (k : ℕ) (ys : List (ℕ × Place)) → ArePlaced s ys → ArePlaced s (without k ys)
placed_without s k [] p = tt
placed_without s k (y ∷ ys) p = elim (y.0 == k) as (λ b. ArePlaced s (cond (not b) (y ∷ without k ys) (without k ys))) [
  | true ↦ placed_without s k ys p.1
  | false ↦ (p.0, placed_without s k ys p.1)
]

-- the same descriptions die, in any order
pub same_dead : (s : Files) (xs ys : List (ℕ × Place)) → are_distinct (numbers xs) ≡ true → are_distinct (numbers ys) ≡ true → ArePlaced s xs → ArePlaced s ys
    → ((d : ℕ) → is_among (numbers xs) d ≡ is_among (numbers ys) d) → after_all s xs ≡ after_all s ys
same_dead s [] [] dx dy px py same = refl
same_dead s [] (y ∷ ys) dx dy px py same = absurd (false≢true (same y.0 ∙ ap (λ (b : Bool). b || is_among (numbers ys) y.0) (same_nat y.0)))
same_dead s (x ∷ xs) ys dx dy px py same =
    let rest = apart_from_rest x xs dx in
    let among : is_among (numbers ys) x.0 ≡ true = sym (same x.0) ∙ ap (λ (b : Bool). b || is_among (numbers xs) x.0) (same_nat x.0) in
    let left = without x.0 ys in
    let gone : is_among (numbers left) x.0 ≡ false = among_without x.0 x.0 ys ∙ ap (λ (b : Bool). not b && is_among (numbers ys) x.0) (same_nat x.0) in
    let more : (d : ℕ) → is_among (numbers xs) d ≡ is_among (numbers left) d = λ d. elim (same_or_not d x.0) [
      | inl e ↦ subst (λ (k : ℕ). is_among (numbers xs) k ≡ is_among (numbers left) k) (sym e) (rest.0 ∙ sym gone)
      | inr ne ↦
          let t = test_apart d x.0 ne in
          (λ i. sym t i || is_among (numbers xs) d)
          ∙ (same d ∙ ((λ i. not (sym t i) && is_among (numbers ys) d) ∙ sym (among_without x.0 d ys)))
    ] in
    after_first s x xs
    ∙ (same_dead (after_all s (x ∷ [])) xs left rest.1 (distinct_without x.0 ys dy) (still_placed s x xs rest.0 px.1) (still_placed s x left gone (placed_without s x.0 ys py)) more
    ∙ (sym (after_first s x left) ∙ sym (to_front s x ys dy py px.0 among)))
