-- What always holds of descriptions and objects.
use Rattle.std.proofs.Common.{IsSome, List, None, Option, Some, ap, arith, false, get_or, inl, inr, is_some, map, refl, subst, sym, true, unwrap_or, ℕ, ◌<◌, ◌∙◌, ◌≡◌}
use Rattle.std.proofs.lemmas.Bool.{cases_Bool, false≢true}
use Rattle.std.proofs.lemmas.List.{get_or_past}
use Rattle.std.proofs.lemmas.List.FromFn.{get_or-map-range_with_len}
use Rattle.ep_facts.proofs.NatFacts.{below_or}
use Rattle.ep_facts.proofs.OptionFacts.{number_of as some_is, value_of}
use Rattle.ep_base.specs.declared.ids.DescId.{DescId}
use Rattle.ep_machine.specs.Files.{Place, object_of, place_of}
use Rattle.ep_machine.specs.Objects.{Object, instance, is_instance, plain}
use Rattle.ep_object.specs.Kinds.{kind_number}
use Rattle.ep_table.specs.ByNumber.{NumberedBy, contents_by, with_by}
use Rattle.ep_table.specs.Stored.{IsStore, key_at as key_of_end, count_in, counts, holds_in, key_number, names_in, number_in, place_in, places, things}
use Rattle.ep_table.specs.Value.{SoundThings, Things, content_of, count_at, files_in, number_at, thing_number, unwrapped}
use Rattle.ep_table.specs.declared.store.Store.TheInside.{Inside}
use Rattle.ep_table.specs.declared.words.Description.{Description}
use Rattle.ep_table.specs.declared.words.Shared.{Shared}
use Rattle.ep_table.proofs.CloseLemmas.{contents_has}
use Rattle.ep_table.proofs.ByNumberLemmas.{content_there, contents_length, has_or, with_none}
use Rattle.ep_table.proofs.CountsLemmas.{count_there, counts_at, counts_length}
use Rattle.ep_table.proofs.StoreLemmas.{key_at, object_is, place_is, thing_is}

-- a description under a key that has a number
pub record There (slots : List (Option Description)) (key d : ℕ) : Type 0 where
  pub it : Description
  pub is : get_or slots key None ≡ Some it
  pub number : it.number ≡ d

there_of : (slots : List (Option Description)) (key d : ℕ) (o : Option Description) → get_or slots key None ≡ o → key_number o ≡ Some d → There slots key d
there_of slots key d None e h = absurd cc
there_of slots key d (Some x) e h = record { it = x; is = e; number = cc }

pub there : {A : Type 0} (k : Inside A) (v : Things) → things k ≡ v → (key : DescId) (d : ℕ) → number_at v.keys key ≡ Some d → There k.descriptions.slots key.0 d
there k v same key d h =
    there_of k.descriptions.slots key.0 d (get_or k.descriptions.slots key.0 None) refl
    (sym (key_at k.descriptions.slots key.0) ∙ (ap (λ (w : Things). number_at w.keys key) same ∙ h))

keyed_of : (slots : List (Option Description)) (n : ℕ) → NumberedBy number_in slots n → (d : ℕ) → is_some (get_or (places slots n) d None) ≡ true → (key : DescId) × (number_at (map key_number slots) key ≡ Some d)
keyed_of slots n num d h =
    let p = value_of (get_or (places slots n) d None) h in
    let has = contents_has slots n num d p.0 p.1 in
    let key : DescId = record { 0 = has.0.key } in
    let f : number_at (map key_number slots) key ≡ Some (number_in has.0.it) = key_at slots has.0.key ∙ ap key_number has.0.is in
    (key, f ∙ ap (λ (m : ℕ). Some m) has.0.num)

held_of : (slots : List (Option Description)) (n : ℕ) → NumberedBy number_in slots n → (d : ℕ) → is_some (get_or (places slots n) d None) ≡ false → count_at (counts holds_in slots n) d ≡ 0
held_of slots n num d h =
    let none : get_or (contents_by number_in holds_in slots n) d None ≡ None = elim (below_or d n) [
      | inl lt ↦ elim (has_or number_in place_in slots d) [
        | inl has ↦
            let c = content_there number_in place_in slots n num has.key has.it has.is in
            let e : get_or (places slots n) d None ≡ Some (place_in has.it) = ap (λ (m : ℕ). get_or (places slots n) m None) (sym has.num) ∙ c in
            let z : is_some (get_or (places slots n) d None) ≡ true = ap is_some e in
            absurd (false≢true (sym h ∙ z))
        | inr l ↦ get_or-map-range_with_len (with_by number_in holds_in slots) 0 n d d None lt (omega arith) ∙ with_none number_in holds_in slots d l
      ]
      | inr le ↦ get_or_past (contents_by number_in holds_in slots n) d None (omega (arith, le, contents_length number_in holds_in slots n))
    ] in
    counts_at holds_in (contents_by number_in holds_in slots n) d ∙ ap count_in none

some_shared : (x y : Shared) → Some x ≡ Some y → x ≡ y
some_shared x y h = ap (λ (o : Option Shared). unwrap_or o x) h

some_key : (a b : DescId) → Some a ≡ Some b → a.0 ≡ b.0
some_key a b h = ap (λ (o : Option DescId). (unwrap_or o a).0) h

some_description : (x y : Description) → Some x ≡ Some y → x ≡ y
some_description x y h = ap (λ (o : Option Description). unwrap_or o x) h

-- an object has one description at each end
apart_of : {A : Type 0} (k : Inside A) → IsStore k → (d e : ℕ) (p : Place) → place_of (files_in (things k)) d ≡ Some p → place_of (files_in (things k)) e ≡ Some p → d ≡ e
apart_of k inv d e p i j =
    let ds = k.descriptions.slots in
    let os = k.objects.slots in
    let a = contents_has ds k.described inv.descriptions d p i in
    let b = contents_has ds k.described inv.descriptions e p j in
    let x = inv.backed a.0.key a.0.it a.0.is in
    let y = inv.backed b.0.key b.0.it b.0.is in
    let places : place_in a.0.it ≡ place_in b.0.it = a.1 ∙ sym b.1 in
    let at : a.0.it.object ≡ b.0.it.object = inv.objects.one a.0.it.object b.0.it.object x.it y.it x.is y.is (x.number ∙ (ap (λ (q : Place). q.object) places ∙ sym y.number)) in
    let shared : x.it ≡ y.it = some_shared x.it y.it (sym x.is ∙ (ap (λ (n : ℕ). get_or os n None) at ∙ y.is)) in
    let keys : a.0.key ≡ b.0.key =
    some_key (record { 0 = a.0.key }) (record { 0 = b.0.key }) (sym x.key_is ∙ ((λ t. key_of_end (shared t) ((places t).side)) ∙ y.key_is)) in
    let same : a.0.it ≡ b.0.it = some_description a.0.it b.0.it (sym a.0.is ∙ (ap (λ (n : ℕ). get_or ds n None) keys ∙ b.0.is)) in
    sym a.0.num ∙ (ap number_in same ∙ b.0.num)

kind_instance : (x : Object) → kind_number x ≡ 5 → is_instance x ≡ true
kind_instance instance h = refl
kind_instance plain h = cc
kind_instance x h = cc

-- what is held is an instance
instances_of : {A : Type 0} (k : Inside A) → IsStore k → (d : ℕ) → 0 < count_at (things k).holds d → is_instance (content_of (files_in (things k)) d) ≡ true
instances_of k inv d h = elim (cases_Bool (is_some (get_or (places k.descriptions.slots k.described) d None))) [
  | inl lives ↦
      let w = keyed_of k.descriptions.slots k.described inv.descriptions d lives in
      let a = there k (things k) refl w.0 d w.1 in
      let b = inv.backed w.0.0 a.it a.is in
      let held : 0 < a.it.holds = omega (arith, h, ap (λ (n : ℕ). count_at (things k).holds n) (sym a.number), count_there holds_in k.descriptions.slots k.described inv.descriptions w.0.0 a.it a.is) in
      let n = thing_is k (things k) inv refl w.0 a.it a.is ∙ a.number in
      let object = ap (λ (m : ℕ). object_of (files_in (things k)) m) (sym n) ∙ object_is k (things k) inv refl w.0 a.it a.is in
      ap (λ (o : Option Object). is_instance (unwrapped o)) object ∙ kind_instance b.it.object (inv.instances w.0.0 a.it a.is held b.it b.is)
  | inr dead ↦ absurd (omega (arith, h, held_of k.descriptions.slots k.described inv.descriptions d dead))
]

sound_inside : {A : Type 0} (k : Inside A) → IsStore k → SoundThings (things k)
sound_inside k inv = record {
  one = λ i j d p q. let a = there k (things k) refl i d p in let b = there k (things k) refl j d q in inv.descriptions.one i.0 j.0 a.it b.it a.is b.is (a.number ∙ sym b.number);
  place = λ key d p.
      let a = there k (things k) refl key d p in
      let e = place_is k (things k) inv refl key a.it a.is in
      let n = thing_is k (things k) inv refl key a.it a.is ∙ a.number in
      subst (λ (o : Option Place). IsSome o) (sym (ap (λ (m : ℕ). place_of (files_in (things k)) m) (sym n) ∙ e)) refl;
  object = λ key d p.
      let a = there k (things k) refl key d p in
      let e = object_is k (things k) inv refl key a.it a.is in
      let n = thing_is k (things k) inv refl key a.it a.is ∙ a.number in
      subst (λ (o : Option Object). IsSome o) (sym (ap (λ (m : ℕ). object_of (files_in (things k)) m) (sym n) ∙ e)) refl;
  keyed = λ d h. keyed_of k.descriptions.slots k.described inv.descriptions d h;
  apart = apart_of k inv;
  held = λ d h. held_of k.descriptions.slots k.described inv.descriptions d h;
  names_length = counts_length names_in k.descriptions.slots k.described ∙ sym (contents_length number_in place_in k.descriptions.slots k.described);
  holds_length = counts_length holds_in k.descriptions.slots k.described ∙ sym (contents_length number_in place_in k.descriptions.slots k.described);
  queue = inv.queue;
  instances = instances_of k inv;
}

pub sound_things : {A : Type 0} (k : Inside A) (v : Things) → IsStore k → things k ≡ v → SoundThings v
sound_things k v inv same = subst (λ (w : Things). SoundThings w) same (sound_inside k inv)

-- a key that is live is that of a place
pub place_under : (v : Things) (key : DescId) → SoundThings v → IsSome (number_at v.keys key) → IsSome (place_of (files_in v) (thing_number v key))
place_under v key sound live = sound.place key (thing_number v key) (some_is (number_at v.keys key) live)
