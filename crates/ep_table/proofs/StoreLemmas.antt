-- Reading descriptions and objects.
use Rattle.std.proofs.Common.{IsSome, List, None, Option, Some, ap, get_or, map, refl, subst, suc, sym, true, unwrap_or, zero, ℕ, ◌∙◌, ◌≡◌, ◌∷◌, []}
use Rattle.ep_base.specs.declared.ids.DescId.{DescId}
use Rattle.ep_machine.specs.Files.{Place, object_at, object_of, place_of, side_in, side_of}
use Rattle.ep_table.specs.Stored.{Backs, IsStore, key_number, number_in, object_in, object_number_in, objects, place_in, things}
use Rattle.ep_machine.specs.Objects.{Object, instance, is_instance, plain}
use Rattle.ep_object.specs.Kinds.{kind_number}
use Rattle.ep_table.specs.Value.{Things, content_of, files_in, number_at, thing_number, unwrapped}
use Rattle.ep_table.specs.declared.store.Store.TheInside.{Inside}
use Rattle.ep_table.specs.declared.words.Description.{Description}
use Rattle.ep_table.specs.declared.words.Shared.{Shared}
use Rattle.ep_table.proofs.ByNumberLemmas.{content_there}

pub key_at : (slots : List (Option Description)) (key : ℕ) → get_or (map key_number slots) key None ≡ key_number (get_or slots key None)
key_at [] key = refl
key_at (x ∷ slots) zero = refl
key_at (x ∷ slots) (suc key) = key_at slots key

-- a description under a key
module _ {A : Type 0} (k : Inside A) (v : Things) (inv : IsStore k) (same : things k ≡ v) (key : DescId) (d : Description) (is : get_or k.descriptions.slots key.0 None ≡ Some d) where
  pub number_is : number_at v.keys key ≡ Some d.number
  number_is = ap (λ (w : Things). number_at w.keys key) (sym same) ∙ (key_at k.descriptions.slots key.0 ∙ ap key_number is)

  pub thing_is : thing_number v key ≡ d.number
  thing_is = ap (λ (o : Option ℕ). unwrap_or o 0) number_is

  pub place_is : place_of (files_in v) (thing_number v key) ≡ Some (place_in d)
  place_is =
      ap (λ (n : ℕ). place_of (files_in v) n) thing_is
      ∙ (ap (λ (w : Things). get_or w.descriptions d.number None) (sym same)
      ∙ content_there number_in place_in k.descriptions.slots k.described inv.descriptions key.0 d is)

  abbrev pub backs : Backs k.objects.slots key.0 d
  backs = inv.backed key.0 d is

  pub object_is : object_of (files_in v) (thing_number v key) ≡ Some backs.it.object
  object_is =
      ap (λ (o : Option Place). object_at (files_in v) o) place_is
      ∙ (ap (λ (w : Things). get_or w.objects d.object_number None) (sym same)
      ∙ (ap (λ (n : ℕ). get_or (objects k.objects.slots k.made) n None) (sym backs.number)
      ∙ content_there object_number_in object_in k.objects.slots k.made inv.objects d.object backs.it backs.is))

  pub object_there : IsSome (get_or k.objects.slots d.object None)
  object_there = subst (λ (o : Option Shared). IsSome o) (sym backs.is) refl

  pub side_is : side_of (files_in v) (thing_number v key) ≡ d.end
  side_is = ap side_in place_is

  pub object_found : (s : Shared) → get_or k.objects.slots d.object None ≡ Some s → Some s.object ≡ object_of (files_in v) (thing_number v key)
  object_found s at = let e : s ≡ backs.it = (let x = backs.is in cc) in ap (λ (x : Shared). Some x.object) e ∙ sym object_is

-- a description under a key that has a number
record There (slots : List (Option Description)) (key d : ℕ) : Type 0 where
  pub it : Description
  pub is : get_or slots key None ≡ Some it
  pub number : it.number ≡ d

instance_kind : (x : Object) → is_instance x ≡ true → kind_number x ≡ 5
instance_kind instance h = refl
instance_kind plain h = cc
instance_kind x h = cc

-- an instance, under its key
pub instance_there : {A : Type 0} (k : Inside A) (v : Things) (inv : IsStore k) (same : things k ≡ v) (key : DescId) (d : Description) (is : get_or k.descriptions.slots key.0 None ≡ Some d)
    → is_instance (content_of (files_in v) (thing_number v key)) ≡ true → (s : Shared) → get_or k.objects.slots d.object None ≡ Some s → kind_number s.object ≡ 5
instance_there k v inv same key d is h s at =
    instance_kind s.object (ap (λ (o : Option Object). is_instance (unwrapped o)) (object_found k v inv same key d is s at) ∙ h)
