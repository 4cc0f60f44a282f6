-- The content of an object changes.
use Rattle.std.proofs.Common.{Err, IfOk, List, None, Ok, OnErr, OnOk, Option, Result, Some, [], ap, get_or, inl, inr, refl, slice_set, subst, suc, sym, zero, ℕ, ◌∙◌, ◌∷◌, ◌≡◌}
use Rattle.std.specs.declared.alloc.AllocError.{AllocError}
use Rattle.ep_facts.proofs.NatFacts.{same_or_not}
use Rattle.ep_base.specs.declared.answer.Answer.{Answer}
use Rattle.ep_base.specs.declared.ids.DescId.{DescId}
use Rattle.ep_base.specs.declared.object.End.{End}
use Rattle.ep_base.specs.declared.object.End.TheVariants.{First, Second}
use Rattle.ep_base.specs.declared.object.Raised.{Raised}
use Rattle.ep_machine.specs.Effect.{Effect, attempt}
use Rattle.ep_machine.specs.Files.{object_number, place_of}
use Rattle.ep_machine.specs.Objects.{Object, ObjectCall, object_effect, object_refusals}
use Rattle.ep_machine.specs.Tables.{affected}
use Rattle.ep_table.specs.ByNumber.{NumberedBy}
use Rattle.ep_table.specs.Stored.{AllBacked, AllOwned, IsStore, key_at as end_key, object_in, object_number_in, objects, things}
use Rattle.ep_table.specs.Value.{Seen, Things, effect_at, files_in, number_of, thing_number, unwrapped}
use Rattle.ep_table.specs.View.{IsTables, value_of}
use Rattle.ep_table.specs.declared.store.Store.TheInside.{Inside}
use Rattle.ep_table.specs.declared.tables.Tables.TheInside.{Inside as Tables}
use Rattle.ep_table.specs.declared.words.Description.{Description}
use Rattle.ep_table.specs.declared.words.Shared.{Shared}
use Rattle.ep_table.proofs.ByNumberLemmas.{contents_next, next_here, next_other, numbered_next}
use Rattle.ep_table.proofs.StoreLemmas.{backs, object_found, place_is, side_is}

key_same : (s : Shared) (y : Object) (e : End) → end_key (record s { object = y }) e ≡ end_key s e
key_same s y First = refl
key_same s y Second = refl

pub set_get : {A : Type 0} (xs : List (Option A)) (i : ℕ) (x : A) → get_or xs i None ≡ Some x → slice_set xs i (Some x) ≡ xs
set_get [] i x h = refl
set_get (y ∷ xs) zero x h = ap (λ r. r ∷ xs) (sym h)
set_get (y ∷ xs) (suc i) x h = ap (λ r. y ∷ r) (set_get xs i x h)

module _ (ds : List (Option Description)) (os : List (Option Shared)) (m at : ℕ) (s : Shared) (is : get_or os at None ≡ Some s) (num : NumberedBy object_number_in os m) (y : Object) where
  abbrev t : Shared
  t = record s { object = y }

  keeps : (x : Shared) → Some t ≡ Some x → object_number_in x ≡ object_number_in s
  keeps x h = let e : t ≡ x = cc in sym (ap object_number_in e)

  abbrev pub os1 : List (Option Shared)
  os1 = slice_set os at (Some t)

  here : get_or os1 at None ≡ Some t
  here = next_here object_number_in object_in os at s is m num (Some t) keeps

  pub numbered_same : NumberedBy object_number_in os1 m
  numbered_same = numbered_next object_number_in object_in os at s is m num (Some t) keeps

  pub backed_same : AllBacked ds os → AllBacked ds os1
  backed_same h key d e = let b = h key d e in elim (same_or_not d.object at) [
    | inl to ↦
        let same : s ≡ b.it = (let z = b.is in let w = ap (λ (i : ℕ). get_or os i None) to in cc) in
        record {
          it = t;
          is = ap (λ (i : ℕ). get_or os1 i None) to ∙ here;
          number = ap object_number_in same ∙ b.number;
          key_is = key_same s y d.end ∙ (ap (λ (x : Shared). end_key x d.end) same ∙ b.key_is);
        }
    | inr ne ↦ record { it = b.it; is = next_other object_number_in object_in os at s is m num (Some t) keeps d.object ne ∙ b.is; number = b.number; key_is = b.key_is }
  ]

  pub owned_same : AllOwned ds os → AllOwned ds os1
  owned_same h i x e key q has = elim (same_or_not i at) [
    | inl to ↦
        let same : t ≡ x = (let z = here in let w = ap (λ (j : ℕ). get_or os1 j None) to in cc) in
        let o = h at s e key is (sym (key_same s y e) ∙ (ap (λ (z : Shared). end_key z e) same ∙ has)) in
        record { it = o.it; is = o.is; object = o.object ∙ sym to; end = o.end }
    | inr ne ↦ h i x e key (sym (next_other object_number_in object_in os at s is m num (Some t) keeps i ne) ∙ q) has
  ]

  pub objects_same : objects os1 m ≡ slice_set (objects os m) s.number (Some y)
  objects_same = contents_next object_number_in object_in os at s is m num (Some t) keeps

-- a call at a description under a key
module _ {A : Type 0} (k : Inside A) (v : Things) (inv : IsStore k) (same : things k ≡ v) (key : DescId) (d : Description) (is : get_or k.descriptions.slots key.0 None ≡ Some d) (s : Shared) (at : get_or k.objects.slots d.object None ≡ Some s) where
  pub effect_is : (now : ℕ) (call : ObjectCall) → attempt (object_refusals s.object d.end now call) s.object (object_effect s.object d.end now call) ≡ effect_at (files_in v) (thing_number v key) now call
  effect_is now call =
      let o = object_found k v inv same key d is s at in
      let e = sym (side_is k v inv same key d is) in
      let f = ap unwrapped o in
      λ i. attempt (object_refusals (f i) (e i) now call) (f i) (object_effect (f i) (e i) now call)

  number_is : s.number ≡ object_number (place_of (files_in v) (thing_number v key))
  number_is =
      let b = backs k v inv same key d is in
      let e : s ≡ b.it = (let x = b.is in cc) in
      ap object_number_in e ∙ (b.number ∙ sym (ap object_number (place_is k v inv same key d is)))

  pub things_applied : (y : Object) → things (record k { objects = record k.objects { slots = slice_set k.objects.slots d.object (Some (record s { object = y })) } })
      ≡ record v { objects = slice_set v.objects (object_number (place_of (files_in v) (thing_number v key))) (Some y) }
  things_applied y =
      let e = objects_same (k.descriptions.slots) k.objects.slots k.made d.object s at inv.objects y ∙ ap (λ (n : ℕ). slice_set (objects k.objects.slots k.made) n (Some y)) number_is in
      let n = object_number (place_of (files_in v) (thing_number v key)) in
      (λ i. record (things k) { objects = e i }) ∙ ap (λ (w : Things). record w { objects = slice_set w.objects n (Some y) }) same

  pub things_kept : (y : Object) → y ≡ s.object → things (record k { objects = record k.objects { slots = slice_set k.objects.slots d.object (Some (record s { object = y })) } }) ≡ v
  things_kept y e =
      let f : slice_set k.objects.slots d.object (Some (record s { object = y })) ≡ k.objects.slots = ap (λ (z : Object). slice_set k.objects.slots d.object (Some (record s { object = z }))) e ∙ set_get k.objects.slots d.object s at in
      (λ i. record (things k) { objects = objects (f i) k.made }) ∙ same

-- what a call answers where it is done
pub ok_answer : (r : Result (Answer × Raised) AllocError) (x : Object) (f g : Effect Object) → f ≡ g → IfOk r (λ p. (p.0, x, p.1) ≡ f) → IfOk r (λ p. p.0 ≡ g.0)
ok_answer (Ok p) x f g e h = ap (λ (q : Effect Object). q.0) (h ∙ e)
ok_answer (Err p) x f g e h = tt

pub ok_raised : (r : Result (Answer × Raised) AllocError) (x : Object) (f g : Effect Object) → f ≡ g → IfOk r (λ p. (p.0, x, p.1) ≡ f) → IfOk r (λ p. p.1 ≡ g.2)
ok_raised (Ok p) x f g e h = ap (λ (q : Effect Object). q.2) (h ∙ e)
ok_raised (Err p) x f g e h = tt

pub ok_content : (r : Result (Answer × Raised) AllocError) (x : Object) (f g : Effect Object) (V : Type 0) (w : V) (u : Object → V) → w ≡ u x → f ≡ g → IfOk r (λ p. (p.0, x, p.1) ≡ f) → OnOk r (w ≡ u g.1)
ok_content (Ok p) x f g V w u a e h = a ∙ ap u (ap (λ (q : Effect Object). q.1) (h ∙ e))
ok_content (Err p) x f g V w u a e h = tt

pub err_same : (r : Result (Answer × Raised) AllocError) (A B : Type 0) → (A → B) → OnErr r A → OnErr r B
err_same (Ok p) A B f h = tt
err_same (Err p) A B f h = f h

pub ok_same : (r : Result (Answer × Raised) AllocError) (A B : Type 0) → (A → B) → OnOk r A → OnOk r B
ok_same (Ok p) A B f h = f h
ok_same (Err p) A B f h = tt

-- the tables with the store after the call
module _ {A : Type 0} (k : Tables A) (v : Seen) (same : value_of k ≡ v) (key : DescId) (now : ℕ) (call : ObjectCall) where
  abbrev after_call : Things → Things
  after_call s = record s { objects = (affected (files_in s) (thing_number s key) (effect_at (files_in s) (thing_number s key) now call)).objects }

  pub value_applied : (t : Things) → t ≡ after_call k.store → value_of (record k { store = t }) ≡ record v { files = affected v.files (number_of v key) (effect_at v.files (number_of v key) now call) }
  value_applied t h =
      let P : Seen → Type 0 = λ w. value_of (record k { store = t }) ≡ record w { files = affected w.files (number_of w key) (effect_at w.files (number_of w key) now call) } in
      subst P same (ap (λ (s : Things). value_of (record k { store = s })) h)

-- a store with other contents of objects leaves what always holds of the tables
pub still_tables : {A : Type 0} (k : Tables A) (r : Result (Answer × Raised) AllocError) (t : Things) (os : List (Option Object)) → IsTables k → OnOk r (t ≡ record k.store { objects = os }) → OnErr r (t ≡ k.store) → IsTables (record k { store = t })
still_tables k (Ok p) t os inv ok err = subst (λ (s : Things). IsTables (record k { store = s })) (sym ok) (record { live = inv.live; counts = inv.counts; living = inv.living })
still_tables k (Err p) t os inv ok err = subst (λ (s : Things). IsTables (record k { store = s })) (sym err) inv
