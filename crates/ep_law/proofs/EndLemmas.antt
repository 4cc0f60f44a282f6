-- Each description has an end of an object of its own, and that end is there.
use Rattle.std.proofs.Common.{◌≡◌, ◌≢◌, ℕ, zero, suc, ◌<◌, ◌++◌, ◌∙◌, ◌⊎◌, Bool, true, false, List, [], ◌∷◌, None, Option, Some, get_or, if◌then◌else◌, inl, inr, length, refl, ap, arith, set, subst, sym, unwrap_or}
use Rattle.std.proofs.lemmas.List.{get_or_append_left, length_push, length-set}
use Rattle.ep_facts.proofs.NatFacts.{less_apart}
use Rattle.ep_base.specs.declared.object.End.{End}
use Rattle.ep_base.specs.declared.object.End.TheVariants.{First, Second}
use Rattle.ep_machine.specs.Deaths.{kept_object}
use Rattle.ep_machine.specs.Files.{Files, Place, place_of, with_object}
use Rattle.ep_machine.specs.Lists.{are_distinct}
use Rattle.ep_machine.specs.Objects.{Object, close_end, is_plain, plain, is_waiting}
use Rattle.ep_machine.specs.Tables.{create_one, create_two, describe, new_object}
use Rattle.ep_law.proofs.DeathLemmas.{ArePlaced, after_all, after_first, apart_from_rest, has_here, numbers, still_placed}
use Rattle.ep_law.proofs.InstanceLemmas.{AreMade, narrows_death, narrows_describe, narrows_new_object}
use Rattle.ep_law.proofs.NamedLivesLemmas.{get_none}
use Rattle.ep_object.proofs.KindLemmas.{close_has, close_keeps_plain}
use Rattle.ep_object.specs.Law.{object_has}
use Rattle.std.proofs.Common.{◌||◌}
use Rattle.ep_law.specs.Laws.{HaveOwnEnds}

abbrev pub object_there : Files → ℕ → Object
object_there f k = unwrap_or (get_or f.objects k None) plain

pub record Own (f : Files) : Type 0 where
  pub made : AreMade f
  pub some : 0 < length f.objects
  pub first : is_plain (object_there f 0) ≡ true  -- object 0 is the plain one of the opening
  pub apart : (d e : ℕ) (p : Place) → place_of f d ≡ Some p → place_of f e ≡ Some p → d ≡ e
  pub ends : (d : ℕ) (p : Place) → place_of f d ≡ Some p → object_has (object_there f p.object) p.side ≡ true

pub own_of : (f : Files) → HaveOwnEnds f → Own f
own_of f ends = record { made = ends.made; some = ends.first.0; first = ends.first.1; apart = ends.apart; ends = ends.ends }

-- what holds of an object and of the one in its place
pub set_object : (P : Object → Type 0) (os : List (Option Object)) (k j : ℕ) (o : Option Object) → (j ≡ k → P (unwrap_or o plain)) → P (unwrap_or (get_or os j None) plain) → P (unwrap_or (get_or (set os k o) j None) plain)
set_object P [] k j o new old = old
set_object P (x ∷ os) zero zero o new old = new refl
set_object P (x ∷ os) zero (suc j) o new old = old
set_object P (x ∷ os) (suc k) zero o new old = old
set_object P (x ∷ os) (suc k) (suc j) o new old = set_object P os k j o (λ e. new (ap suc e)) old

-- An object in the place of one.
pub own_with_object : (f : Files) (k : ℕ) (x : Object) → Own f → ((e : End) → object_has (object_there f k) e ≡ true → object_has x e ≡ true) → (is_plain (object_there f k) ≡ true → is_plain x ≡ true) → Own (with_object f k x)
own_with_object f k x own keeps stays =
    let same = length-set f.objects k (Some x) in
    record {
      made = λ d p e. let lt = own.made d p e in omega (arith, same, lt);
      some = let lt = own.some in omega (arith, same, lt);
      first = set_object (λ y. is_plain y ≡ true) f.objects k 0 (Some x) (λ e. stays (subst (λ j. is_plain (object_there f j) ≡ true) e own.first)) own.first;
      apart = own.apart;
      ends = λ d p e.
          let old = own.ends d p e in
          set_object (λ y. object_has y p.side ≡ true) f.objects k p.object (Some x) (λ at. keeps p.side (subst (λ j. object_has (object_there f j) p.side ≡ true) at old)) old;
    }

-- A new object, and a description of an end that none has.
pub own_new_object : (f : Files) (x : Object) → Own f → Own (new_object f x)
own_new_object f x own =
    let more = length_push f.objects (Some x) in
    let some = own.some in
    record {
      made = (narrows_new_object f x own.made).made;
      some = omega (arith, more, some);
      first = ap (λ (o : Option Object). is_plain (unwrap_or o plain)) (get_or_append_left f.objects (Some x ∷ []) None 0 own.some) ∙ own.first;
      apart = own.apart;
      ends = λ d p e. ap (λ (o : Option Object). object_has (unwrap_or o plain) p.side) (get_or_append_left f.objects (Some x ∷ []) None p.object (own.made d p e)) ∙ own.ends d p e;
    }

pub pushed_place : (ds : List (Option Place)) (new : Place) (d : ℕ) (p : Place) → get_or (ds ++ Some new ∷ []) d None ≡ Some p → (get_or ds d None ≡ Some p) ⊎ ((d ≡ length ds) × (new ≡ p))
pushed_place [] new zero p e = let same : new ≡ p = cc in inr (refl, same)
pushed_place [] new (suc d) p e = cc
pushed_place (x ∷ ds) new zero p e = inl e
pushed_place (x ∷ ds) new (suc d) p e = elim (pushed_place ds new d p e) [ inl old ↦ inl old | inr at ↦ inr (ap suc at.0, at.1) ]

pub own_describe : (f : Files) (p k : ℕ) (e : End) (cloexec : Bool) → k < length f.objects → object_has (object_there f k) e ≡ true → ((d : ℕ) (q : Place) → place_of f d ≡ Some q → q.object ≡ k → q.side ≡ e → ⊥) → Own f → Own (describe f p k e cloexec)
own_describe f p k e cloexec lt has free own =
    let new : Place = record { object = k; side = e } in
    record {
      made = (narrows_describe f p k e cloexec lt own.made).made;
      some = own.some;
      first = own.first;
      apart = λ c d q is also. elim (pushed_place f.descriptions new c q is) [
        | inl x ↦ elim (pushed_place f.descriptions new d q also) [ inl y ↦ own.apart c d q x y | inr y ↦ absurd (free c q x (ap (λ (z : Place). z.object) (sym y.1)) (ap (λ (z : Place). z.side) (sym y.1))) ]
        | inr x ↦ elim (pushed_place f.descriptions new d q also) [ inl y ↦ absurd (free d q y (ap (λ (z : Place). z.object) (sym x.1)) (ap (λ (z : Place). z.side) (sym x.1))) | inr y ↦ x.0 ∙ sym y.0 ]
      ];
      ends = λ d q is. elim (pushed_place f.descriptions new d q is) [ inl x ↦ own.ends d q x | inr x ↦ subst (λ (z : Place). object_has (object_there f z.object) z.side ≡ true) x.1 has ];
    }

pushed_object : (os : List (Option Object)) (x : Object) → get_or (os ++ Some x ∷ []) (length os) None ≡ Some x
pushed_object [] x = refl
pushed_object (y ∷ os) x = pushed_object os x

pub own_one : (f : Files) (p : ℕ) (x : Object) (cloexec : Bool) → object_has x First ≡ true → Own f → Own (create_one f p x cloexec)
own_one f p x cloexec has own =
    let more = length_push f.objects (Some x) in
    own_describe (new_object f x) p (length f.objects) First cloexec (omega (arith, more)) (ap (λ (o : Option Object). object_has (unwrap_or o plain) First) (pushed_object f.objects x) ∙ has)
    (λ d q e at side. less_apart q.object (length f.objects) (own.made d q e) at) (own_new_object f x own)

first_not_second : First ≡ Second → ⊥
first_not_second e = cc

pub own_two : (f : Files) (p : ℕ) (x : Object) (cloexec : Bool) → object_has x First ≡ true → object_has x Second ≡ true → Own f → Own (create_two f p x cloexec)
own_two f p x cloexec has also own =
    let more = length_push f.objects (Some x) in
    let place : Place = record { object = length f.objects; side = First } in
    own_describe (create_one f p x cloexec) p (length f.objects) Second cloexec (omega (arith, more)) (ap (λ (o : Option Object). object_has (unwrap_or o plain) Second) (pushed_object f.objects x) ∙ also)
    (λ d q e at side. elim (pushed_place f.descriptions place d q e) [
      | inl old ↦ less_apart q.object (length f.objects) (own.made d q old) at
      | inr new ↦ first_not_second (ap (λ (z : Place). z.side) new.1 ∙ side)
    ]) (own_one f p x cloexec has own)

-- Calls and deaths.
closed_plain : (b : Bool) (x : Object) (e : End) → is_plain x ≡ true → is_plain (unwrap_or (if b then Some (close_end x e).0 else None) plain) ≡ true
closed_plain true x e h = close_keeps_plain x e ∙ h
closed_plain false x e h = refl

pub was_place : (ds : List (Option Place)) (k d : ℕ) (p : Place) → get_or (set ds k None) d None ≡ Some p → get_or ds d None ≡ Some p
was_place [] k d p e = e
was_place (x ∷ ds) zero zero p e = cc
was_place (x ∷ ds) zero (suc d) p e = e
was_place (x ∷ ds) (suc k) zero p e = e
was_place (x ∷ ds) (suc k) (suc d) p e = was_place ds k d p e

module _ (f : Files) (x : ℕ × Place) (is : place_of f x.0 ≡ Some x.1) (own : Own f) where
  abbrev k : ℕ
  k = x.1.object

  abbrev gone : List (Option Place)
  gone = set f.descriptions x.0 None

  abbrev shut : Object
  shut = (close_end (object_there f k) x.1.side).0

  abbrev g : Files
  g = after_all f (x ∷ [])

  pub lived : (d : ℕ) (p : Place) → place_of g d ≡ Some p → place_of f d ≡ Some p
  lived d p e = was_place f.descriptions x.0 d p e

  -- what lives on has another end
  pub other_end : (d : ℕ) (p : Place) → place_of g d ≡ Some p → p.object ≡ k → p.side ≢ x.1.side
  other_end d p e at side =
      let q : Place = record { object = p.object; side = p.side } in
      let same : p ≡ x.1 = λ i. record { object = at i; side = side i } in
      let here : d ≡ x.0 = own.apart d x.0 p (lived d p e) (is ∙ ap Some (sym same)) in
      let none : get_or gone d None ≡ None = subst (λ (j : ℕ). get_or gone j None ≡ None) (sym here) (get_none f.descriptions x.0) in
      absurd (none_some p (sym none ∙ e)) where
        none_some : (q : Place) → None ≡ Some q → ⊥
        none_some q h = cc

  -- its object is there, with the end of the dead closed
  pub shut_there : (d : ℕ) (p : Place) → place_of g d ≡ Some p → p.object ≡ k → kept_object (record f { descriptions = gone }) k shut ≡ Some shut
  shut_there d p e at = ap (λ (b : Bool). if b || is_waiting shut then Some shut else None) (has_here k 0 d gone p e at)

  pub own_death : Own g
  own_death = record {
    made = (narrows_death f x own.made).made;
    some = let lt = own.some in let same = length-set f.objects k (kept_object (record f { descriptions = gone }) k shut) in omega (arith, same, lt);
    first = set_object (λ y. is_plain y ≡ true) f.objects k 0 (kept_object (record f { descriptions = gone }) k shut) (λ e. closed_plain _ (object_there f k) x.1.side (subst (λ j. is_plain (object_there f j) ≡ true) e own.first)) own.first;
    apart = λ c d p a b. own.apart c d p (lived c p a) (lived d p b);
    ends = λ d p e.
        let old = own.ends d p (lived d p e) in
        set_object (λ y. object_has y p.side ≡ true) f.objects k p.object (kept_object (record f { descriptions = gone }) k shut) (λ at.
        subst (λ (o : Option Object). object_has (unwrap_or o plain) p.side ≡ true) (sym (shut_there d p e at))
        (close_has (object_there f k) x.1.side p.side (other_end d p e at) (subst (λ j. object_has (object_there f j) p.side ≡ true) at old))) old;
  }

pub own_deaths : (f : Files) (xs : List (ℕ × Place)) → are_distinct (numbers xs) ≡ true → ArePlaced f xs → Own f → Own (after_all f xs)
own_deaths f [] d p own = own
own_deaths f (x ∷ xs) d p own =
    let rest = apart_from_rest x xs d in
    subst Own (sym (after_first f x xs)) (own_deaths (after_all f (x ∷ [])) xs rest.1 (still_placed f x xs rest.0 p.1) (own_death f x p.0 own))
