-- What is made leaves each timer as it was.
use Rattle.std.proofs.Common.{◌≡◌, ◌≢◌, ◌∙◌, ◌++◌, ◌<◌, ℕ, Bool, false, IsSome, List, [], ◌∷◌, None, Option, Some, ap, arith, inl, inr, is_some, length, length-append, refl, slice_index_or, sym, unwrap_or}
use Rattle.std.proofs.Math.Seq.{get_or-append_seam}
use Rattle.std.proofs.lemmas.Bool.{cases_eq, cases_lt}
use Rattle.std.proofs.lemmas.List.{get_or_append_left, get_or_past}
use Rattle.ep_base.specs.declared.object.End.{End}
use Rattle.ep_base.specs.declared.object.End.TheVariants.{First, Second}
use Rattle.ep_machine.specs.Files.{Files, Place, object_at, place_of}
use Rattle.ep_machine.specs.Objects.{Object, plain}
use Rattle.ep_machine.specs.Tables.{create_one, create_two, describe, new_object}
use Rattle.ep_machine.specs.Timer.{Timer}
use Rattle.ep_alarms.proofs.AreSetLemmas.{timer_in}
use Rattle.ep_object.specs.Next.{timer_of}

-- each description that is there has an object
abbrev pub HaveObjects : Files → Type 0
HaveObjects f = (d : ℕ) (p : Place) → place_of f d ≡ Some p → IsSome (slice_index_or f.objects p.object None)

within : (xs : List (Option Object)) (k : ℕ) → IsSome (slice_index_or xs k None) → k < length xs
within xs k h = elim (cases_lt k (length xs)) [
  | inl l ↦ l
  | inr past ↦ absurd (let e : is_some (slice_index_or xs k None) ≡ false = ap is_some (get_or_past xs k None past) in cc)
]

module _ (f : Files) (x : Object) (objects : HaveObjects f) where
  with_one : (d : ℕ) → timer_in (new_object f x) d ≡ timer_in f d
  with_one d = by_place (place_of f d) refl where
    by_place : (o : Option Place) → place_of f d ≡ o → timer_in (new_object f x) d ≡ timer_in f d
    by_place None is =
        ap (λ (q : Option Place). timer_of (unwrap_or (object_at (new_object f x) q) plain)) is ∙ sym (ap (λ (q : Option Place). timer_of (unwrap_or (object_at f q) plain)) is)
    by_place (Some p) is =
        ap (λ (q : Option Place). timer_of (unwrap_or (object_at (new_object f x) q) plain)) is
        ∙ (ap (λ (q : Option Object). timer_of (unwrap_or q plain)) (get_or_append_left f.objects (Some x ∷ []) None p.object (within f.objects p.object (objects d p is)))
        ∙ sym (ap (λ (q : Option Place). timer_of (unwrap_or (object_at f q) plain)) is))

abbrev pub timer_placed : List (Option Object) → Option Place → Option Timer
timer_placed xs None = None
timer_placed xs (Some p) = timer_of (unwrap_or (slice_index_or xs p.object None) plain)

pub placed_is : (f : Files) (o : Option Place) → timer_of (unwrap_or (object_at f o) plain) ≡ timer_placed f.objects o
placed_is f None = refl
placed_is f (Some p) = refl

-- a new description, and the others as they were
module _ (f : Files) (p k : ℕ) (e : End) (cloexec : Bool) where
  pub described : (d : ℕ) → d ≢ length f.descriptions → timer_in (describe f p k e cloexec) d ≡ timer_in f d
  described d ne =
      let more : List (Option Place) = Some (record { object = k; side = e }) ∷ [] in
      let same : place_of (describe f p k e cloexec) d ≡ place_of f d = elim (cases_lt d (length f.descriptions)) [
        | inl l ↦ get_or_append_left f.descriptions more None d l
        | inr past ↦ get_or_past (f.descriptions ++ more) d None (let n = length-append f.descriptions more in omega (arith, past, ne, n)) ∙ sym (get_or_past f.descriptions d None past)
      ] in
      placed_is (describe f p k e cloexec) (place_of (describe f p k e cloexec) d) ∙ (ap (timer_placed f.objects) same ∙ sym (placed_is f (place_of f d)))

  pub described_last : timer_in (describe f p k e cloexec) (length f.descriptions) ≡ timer_of (unwrap_or (slice_index_or f.objects k None) plain)
  described_last =
      placed_is (describe f p k e cloexec) (place_of (describe f p k e cloexec) (length f.descriptions))
      ∙ ap (timer_placed f.objects) (get_or-append_seam f.descriptions (Some (record { object = k; side = e })) [] None)

  pub past_none : timer_in f (length f.descriptions) ≡ None
  past_none = placed_is f (place_of f (length f.descriptions)) ∙ ap (timer_placed f.objects) (get_or_past f.descriptions (length f.descriptions) None (omega arith))

last_object : (f : Files) (x : Object) → timer_of (unwrap_or (slice_index_or (new_object f x).objects (length f.objects) None) plain) ≡ timer_of x
last_object f x = ap (λ (q : Option Object). timer_of (unwrap_or q plain)) (get_or-append_seam f.objects (Some x) [] None)

-- an object with one description
pub one_made : (f : Files) (x : Object) (p : ℕ) (cloexec : Bool) → HaveObjects f → (d : ℕ) → d ≢ length f.descriptions → timer_in (create_one f p x cloexec) d ≡ timer_in f d
one_made f x p cloexec objects d ne = described (new_object f x) p (length f.objects) First cloexec d ne ∙ with_one f x objects d

pub one_is : (f : Files) (x : Object) (p : ℕ) (cloexec : Bool) → timer_in (create_one f p x cloexec) (length f.descriptions) ≡ timer_of x
one_is f x p cloexec = described_last (new_object f x) p (length f.objects) First cloexec ∙ last_object f x

pub one_other : (f : Files) (x : Object) (p : ℕ) (cloexec : Bool) → HaveObjects f → timer_of x ≡ None → (d : ℕ) → timer_in (create_one f p x cloexec) d ≡ timer_in f d
one_other f x p cloexec objects none d = elim (cases_eq d (length f.descriptions)) [
  | inl is ↦ ap (timer_in (create_one f p x cloexec)) is ∙ (one_is f x p cloexec ∙ (none ∙ (sym (past_none f p 0 First cloexec) ∙ sym (ap (timer_in f) is))))
  | inr ne ↦ one_made f x p cloexec objects d ne
]

-- an object with two
pub two_other : (f : Files) (x : Object) (p : ℕ) (cloexec : Bool) → HaveObjects f → timer_of x ≡ None → (d : ℕ) → timer_in (create_two f p x cloexec) d ≡ timer_in f d
two_other f x p cloexec objects none d =
    let g = create_one f p x cloexec in
    let last : timer_in (describe g p (length f.objects) Second cloexec) (length g.descriptions) ≡ timer_in g (length g.descriptions) =
    described_last g p (length f.objects) Second cloexec ∙ (last_object f x ∙ (none ∙ sym (past_none g p 0 First cloexec))) in
    elim (cases_eq d (length g.descriptions)) [
      | inl is ↦ ap (timer_in (create_two f p x cloexec)) is ∙ (last ∙ (sym (ap (timer_in g) is) ∙ one_other f x p cloexec objects none d))
      | inr ne ↦ described g p (length f.objects) Second cloexec d ne ∙ one_other f x p cloexec objects none d
    ]
