-- New descriptions.
use Rattle.std.proofs.Common.{List, None, Option, Some, [], ap, arith, count_by, get_or, is_some, length, map, refl, subst, sym, inl, inr, vec_capacity, ℕ, ◌++◌, ◌+◌, ◌∙◌, ◌∷◌, ◌≡◌, ◌≢◌, ◌≤◌}
use Rattle.ep_facts.proofs.NatFacts.{same_or_not}
use Rattle.ep_facts.proofs.ListFacts.{map_push}
use Rattle.std.specs.declared.vec.Vec.{Vec}
use Rattle.slab.specs.Slab.{Slab, Updates, get, slab_len}
use Rattle.ep_base.specs.declared.ids.DescId.{DescId}
use Rattle.ep_base.specs.declared.object.End.{End}
use Rattle.ep_base.specs.declared.object.End.TheVariants.{First, Second}
use Rattle.ep_machine.specs.Files.{Place}
use Rattle.ep_machine.specs.Lists.{numbered}
use Rattle.ep_machine.specs.Objects.{Object}
use Rattle.ep_table.specs.ByNumber.{NumberedBy, contents_by}
use Rattle.ep_table.specs.Stored.{AllBacked, AllFewer, AllOwned, Backs, IsStore, count_in, counts, holds_in, names_in, Owns, key_at as end_key, key_number, number_in, object_in, object_number_in, objects, place_in, places}
use Rattle.ep_table.specs.Value.{AddsKey, InsertsOne, InsertsTwo, Queue, Things}
use Rattle.ep_table.specs.declared.store.Store.TheInside.{Inside}
use Rattle.ep_table.specs.declared.words.Description.{Description}
use Rattle.ep_table.specs.declared.words.Dying.{Dying}
use Rattle.ep_table.specs.declared.words.Loss.{Loss}
use Rattle.ep_table.specs.declared.words.Shared.{Shared}
use Rattle.ep_table.proofs.ByNumberLemmas.{contents_length, contents_more, numbered_more}
use Rattle.ep_table.proofs.QueueLemmas.{queue_more}
use Rattle.ep_table.proofs.CountsLemmas.{counts_length}
use Rattle.ep_table.proofs.StoreLemmas.{key_at}

-- what an insert into a slab says of its slots
pub record Inserted {T : Type 0} (old new : List (Option T)) (key : ℕ) (d : T) : Type 0 where
  pub was : get_or old key None ≡ None
  pub here : get_or new key None ≡ Some d
  pub others : (k : ℕ) → k ≢ key → get_or new k None ≡ get_or old k None

pub inserted : {T : Type 0} (old : List (Option T)) (mid new : Slab T) (key : ℕ) (d : T) → mid.slots ≡ old → get mid key ≡ None → Updates mid new key (Some d) → Inserted old new.slots key d
inserted {T} old mid new key d same was u = record {
  was = ap (λ (xs : List (Option T)). get_or xs key None) (sym same) ∙ was;
  here = u.changed;
  others = λ k ne. u.others k ne ∙ ap (λ (xs : List (Option T)). get_or xs k None) same;
}

-- what was there stays
pub kept : {T : Type 0} (old new : List (Option T)) (key : ℕ) (d : T) → Inserted old new key d → (k : ℕ) (x : T) → get_or old k None ≡ Some x → get_or new k None ≡ Some x
kept {T} old new key d ins k x h =
    let ne : k ≢ key = λ at. (let y = ap (λ (i : ℕ). get_or old i None) at in let z = ins.was in absurd cc) in
    ins.others k ne ∙ h

pub keys_more : (ds ds1 : List (Option Description)) (key : ℕ) (d : Description) → Inserted ds ds1 key d → AddsKey (map key_number ds) (map key_number ds1) (record { 0 = key }) d.number
keys_more ds ds1 key d ins = record {
  free = key_at ds key ∙ ap key_number ins.was;
  here = key_at ds1 key ∙ ap key_number ins.here;
  others = λ k ne. key_at ds1 k.0 ∙ (ap key_number (ins.others k.0 ne) ∙ sym (key_at ds k.0));
}

-- an object more
backed_object : (ds : List (Option Description)) (os os1 : List (Option Shared)) (at : ℕ) (s : Shared) → Inserted os os1 at s → AllBacked ds os → AllBacked ds os1
backed_object ds os os1 at s ins h key d is =
    let b = h key d is in
    record { it = b.it; is = kept os os1 at s ins d.object b.it b.is; number = b.number; key_is = b.key_is }

-- a description more
backed_more : (ds ds1 : List (Option Description)) (os : List (Option Shared)) (key : ℕ) (d : Description) → Inserted ds ds1 key d → AllBacked ds os → Backs os key d → AllBacked ds1 os
backed_more ds ds1 os key d ins h b k x is = elim (same_or_not k key) [
  | inl at ↦
      let e : d ≡ x = (let y = ap (λ (i : ℕ). get_or ds1 i None) at in let z = ins.here in cc) in
      let P : ℕ → Description → Type 0 = λ i y. Backs os i y in
      subst (λ (i : ℕ). P i x) (sym at) (subst (λ (y : Description). P key y) e b)
  | inr ne ↦ h k x (sym (ins.others k ne) ∙ is)
]

owned_more : (ds ds1 : List (Option Description)) (os : List (Option Shared)) (key : ℕ) (d : Description) → Inserted ds ds1 key d → AllOwned ds os → AllOwned ds1 os
owned_more ds ds1 os key d ins h at s e k is own =
    let o = h at s e k is own in
    record { it = o.it; is = kept ds ds1 key d ins k.0 o.it o.is; object = o.object; end = o.end }

owned_object : (ds : List (Option Description)) (os os1 : List (Option Shared)) (at : ℕ) (s : Shared) → Inserted os os1 at s → AllOwned ds os
    → ((e : End) (key : DescId) → end_key s e ≡ Some key → Owns ds at e key) → AllOwned ds os1
owned_object ds os os1 at s ins h own i x e key is has = elim (same_or_not i at) [
  | inl here ↦
      let same : s ≡ x = (let y = ap (λ (j : ℕ). get_or os1 j None) here in let z = ins.here in cc) in
      let o = own e key (ap (λ (y : Shared). end_key y e) same ∙ has) in
      record { it = o.it; is = o.is; object = o.object ∙ sym here; end = o.end }
  | inr ne ↦ h i x e key (sym (ins.others i ne) ∙ is) has
]

pub numbered_push : {A : Type 0} (k : ℕ) (xs : List (Option A)) (p : A) → length (numbered k (xs ++ Some p ∷ [])) ≡ length (numbered k xs) + 1
numbered_push k [] p = refl
numbered_push k (None ∷ xs) p = numbered_push (k + 1) xs p
numbered_push k (Some x ∷ xs) p = omega (arith, numbered_push (k + 1) xs p)

-- as many as there are keys
pub counted_more : (a b : ℕ) (xs ys : List (Option Place)) (p : Place) → a ≡ length (numbered 0 xs) → b ≡ a + 1 → ys ≡ xs ++ Some p ∷ [] → b ≡ length (numbered 0 ys)
counted_more a b xs ys p e f g = omega (arith, numbered_push 0 xs p, ap (λ (zs : List (Option Place)). length (numbered 0 zs)) g)

-- counts of one more
pub counts_more : (count : Description → ℕ) (ds ds1 : List (Option Description)) (key : ℕ) (d : Description) → Inserted ds ds1 key d → NumberedBy number_in ds d.number → counts count ds1 (d.number + 1) ≡ counts count ds d.number ++ count d ∷ []
counts_more count ds ds1 key d a num =
    ap (map count_in) (contents_more number_in count ds ds1 key d a.was a.here a.others num) ∙ map_push count_in (contents_by number_in count ds d.number) (Some (count d))

pub fewer_more : (ds ds1 : List (Option Description)) (key : ℕ) (d : Description) → Inserted ds ds1 key d → (l : ℕ) → d.names ≡ 1 → AllFewer ds l → AllFewer ds1 l
fewer_more ds ds1 key d ins l one h k x is = elim (same_or_not k key) [
  | inl at ↦ let e : d ≡ x = (let y = ap (λ (i : ℕ). get_or ds1 i None) at in let z = ins.here in cc) in omega (arith, one, ap (λ (y : Description). y.names) e)
  | inr ne ↦ h k x (sym (ins.others k ne) ∙ is)
]

pub queue_inserted : (ds : List (Option Description)) (n : ℕ) (p : Place) (dying : List ℕ) (ps : List (Option Place)) (names holds : List ℕ) → ps ≡ places ds n ++ Some p ∷ [] → names ≡ counts names_in ds n ++ 1 ∷ [] → holds ≡ counts holds_in ds n ++ 0 ∷ []
    → Queue (places ds n) (counts names_in ds n) (counts holds_in ds n) dying → Queue ps names holds dying
queue_inserted ds n p dying ps names holds e f g q =
    let l = contents_length number_in place_in ds n in
    let r = queue_more (places ds n) (counts names_in ds n) (counts holds_in ds n) dying p (counts_length names_in ds n ∙ sym l) (counts_length holds_in ds n ∙ sym l) q in
    subst (λ (xs : List (Option Place)). Queue xs names holds dying) (sym e) (subst (λ (xs : List ℕ). Queue (places ds n ++ Some p ∷ []) xs holds dying) (sym f) (subst (λ (xs : List ℕ). Queue (places ds n ++ Some p ∷ []) (counts names_in ds n ++ 1 ∷ []) xs dying) (sym g) r))

-- the invariant but for lengths, over plain variables
pub record Holds (ds : List (Option Description)) (os : List (Option Shared)) (n m : ℕ) : Type 0 where
  pub descriptions : NumberedBy number_in ds n
  pub objects : NumberedBy object_number_in os m
  pub backed : AllBacked ds os
  pub owned : AllOwned ds os

pub holds_of : {A : Type 0} (k : Inside A) → IsStore k → Holds k.descriptions.slots k.objects.slots k.described k.made
holds_of k inv = record { descriptions = inv.descriptions; objects = inv.objects; backed = inv.backed; owned = inv.owned }

-- more room changes nothing else
pub roomier : {A : Type 0} (k : Inside A) → IsStore k → (ds : Slab Description) (os : Slab Shared) (dying : Vec Dying A)
    → ds.slots ≡ k.descriptions.slots → os.slots ≡ k.objects.slots → dying.items ≡ k.dying.items → vec_capacity k.dying ≤ vec_capacity dying
    → IsStore (record k { descriptions = ds; objects = os; dying = dying })
roomier k inv ds os dying e f g room =
    let len : slab_len ds ≡ slab_len k.descriptions = ap (λ (xs : List (Option Description)). count_by is_some xs) e in
    record {
      descriptions = rw e inv.descriptions;
      objects = rw f inv.objects;
      backed = rw (e, f) inv.backed;
      owned = rw (e, f) inv.owned;
      counted = len ∙ (inv.counted ∙ ap (λ (xs : List (Option Description)). length (numbered 0 (places xs k.described))) (sym e));
      room = omega (arith, inv.room, room, len);
      queue = rw (e, g) inv.queue;
      keyed = rw (e, g) inv.keyed;
      fewer = rw e inv.fewer;
      taken = rw f inv.taken;
      owners = rw f inv.owners;
      instances = rw (e, f) inv.instances;
      connected = rw f inv.connected;
      loss_room = inv.loss_room;
    }

-- an object with one description
module _ (ds ds1 : List (Option Description)) (os os1 : List (Option Shared)) (n m key at : ℕ) (x : Object)
    (a : Inserted ds ds1 key (record { number = n; object_number = m; object = at; end = First; names = 1; holds = 0 }))
    (b : Inserted os os1 at (record { number = m; object = x; first = Some (record { 0 = key }); second = None }))
    (h : Holds ds os n m) where
  abbrev d : Description
  d = record { number = n; object_number = m; object = at; end = First; names = 1; holds = 0 }

  abbrev s : Shared
  s = record { number = m; object = x; first = Some (record { 0 = key }); second = None }

  owns_one : (e : End) (k : DescId) → end_key s e ≡ Some k → Owns ds1 at e k
  owns_one First k q = let y : key ≡ k.0 = ap (λ (i : DescId). i.0) (let z : record { 0 = key } ≡ k = cc in z) in record { it = d; is = ap (λ (i : ℕ). get_or ds1 i None) (sym y) ∙ a.here; object = refl; end = refl }
  owns_one Second k q = absurd cc

  pub holds_one : Holds ds1 os1 (n + 1) (m + 1)
  holds_one = record {
    descriptions = numbered_more number_in place_in ds ds1 key d a.was a.here a.others h.descriptions;
    objects = numbered_more object_number_in object_in os os1 at s b.was b.here b.others h.objects;
    backed = backed_more ds ds1 os1 key d a (backed_object ds os os1 at s b h.backed) (record { it = s; is = b.here; number = refl; key_is = refl });
    owned = owned_object ds1 os os1 at s b (owned_more ds ds1 os key d a h.owned) owns_one;
  }

  pub places_one : places ds1 (n + 1) ≡ places ds n ++ Some (place_in d) ∷ []
  places_one = contents_more number_in place_in ds ds1 key d a.was a.here a.others h.descriptions

  pub objects_one : objects os1 (m + 1) ≡ objects os m ++ Some x ∷ []
  objects_one = contents_more object_number_in object_in os os1 at s b.was b.here b.others h.objects

  pub names_one : counts names_in ds1 (n + 1) ≡ counts names_in ds n ++ 1 ∷ []
  names_one = counts_more names_in ds ds1 key d a h.descriptions

  pub holds_zero : counts holds_in ds1 (n + 1) ≡ counts holds_in ds n ++ 0 ∷ []
  holds_zero = counts_more holds_in ds ds1 key d a h.descriptions

  pub queue_one : (dying : List ℕ) → Queue (places ds n) (counts names_in ds n) (counts holds_in ds n) dying → Queue (places ds1 (n + 1)) (counts names_in ds1 (n + 1)) (counts holds_in ds1 (n + 1)) dying
  queue_one dying q = queue_inserted ds n (place_in d) dying (places ds1 (n + 1)) (counts names_in ds1 (n + 1)) (counts holds_in ds1 (n + 1)) places_one names_one holds_zero q

  pub fewer_one : (l : ℕ) → AllFewer ds l → AllFewer ds1 l
  fewer_one l f = fewer_more ds ds1 key d a l refl f

  pub inserts_one : (v : Things) (dying : List ℕ) (named : ℕ) (losses : List Loss) → places ds n ≡ v.descriptions → objects os m ≡ v.objects → map key_number ds ≡ v.keys → counts names_in ds n ≡ v.names → counts holds_in ds n ≡ v.holds → dying ≡ v.dying → named ≡ v.named → losses ≡ []
      → InsertsOne v (record { descriptions = places ds1 (n + 1); objects = objects os1 (m + 1); keys = map key_number ds1; names = counts names_in ds1 (n + 1); holds = counts holds_in ds1 (n + 1); dying = dying; named = named; losses = losses }) (record { 0 = key }) x
  inserts_one v dying named losses p q r en eh t el none =
      let lm : m ≡ length v.objects = sym (contents_length object_number_in object_in os m) ∙ ap (λ (xs : List (Option Object)). length xs) q in
      let ln : n ≡ length v.descriptions = sym (contents_length number_in place_in ds n) ∙ ap (λ (xs : List (Option Place)). length xs) p in
      let adds = keys_more ds ds1 key d a in
      record {
        descriptions = places_one ∙ (λ i. p i ++ Some (record { object = lm i; side = First }) ∷ []);
        objects = objects_one ∙ ap (λ (xs : List (Option Object)). xs ++ Some x ∷ []) q;
        keys = subst (λ (i : ℕ). AddsKey v.keys (map key_number ds1) (record { 0 = key }) i) ln (subst (λ (xs : List (Option ℕ)). AddsKey xs (map key_number ds1) (record { 0 = key }) n) r adds);
        names = names_one ∙ ap (λ (xs : List ℕ). xs ++ 1 ∷ []) en;
        holds = holds_zero ∙ ap (λ (xs : List ℕ). xs ++ 0 ∷ []) eh;
        dying = t;
        named = el;
        losses = none;
      }

-- an object with two descriptions
module _ (ds ds1 ds2 : List (Option Description)) (os os1 : List (Option Shared)) (n m key other at : ℕ) (x : Object)
    (a : Inserted ds ds1 key (record { number = n; object_number = m; object = at; end = First; names = 1; holds = 0 }))
    (c : Inserted ds1 ds2 other (record { number = n + 1; object_number = m; object = at; end = Second; names = 1; holds = 0 }))
    (b : Inserted os os1 at (record { number = m; object = x; first = Some (record { 0 = key }); second = Some (record { 0 = other }) }))
    (h : Holds ds os n m) where
  abbrev d1 : Description
  d1 = record { number = n; object_number = m; object = at; end = First; names = 1; holds = 0 }

  abbrev d2 : Description
  d2 = record { number = n + 1; object_number = m; object = at; end = Second; names = 1; holds = 0 }

  abbrev t : Shared
  t = record { number = m; object = x; first = Some (record { 0 = key }); second = Some (record { 0 = other }) }

  owns_two : (e : End) (k : DescId) → end_key t e ≡ Some k → Owns ds2 at e k
  owns_two First k q =
      let y : key ≡ k.0 = ap (λ (i : DescId). i.0) (let z : record { 0 = key } ≡ k = cc in z) in
      record { it = d1; is = ap (λ (i : ℕ). get_or ds2 i None) (sym y) ∙ kept ds1 ds2 other d2 c key d1 a.here; object = refl; end = refl }
  owns_two Second k q =
      let y : other ≡ k.0 = ap (λ (i : DescId). i.0) (let z : record { 0 = other } ≡ k = cc in z) in
      record { it = d2; is = ap (λ (i : ℕ). get_or ds2 i None) (sym y) ∙ c.here; object = refl; end = refl }

  numbered_one : NumberedBy number_in ds1 (n + 1)
  numbered_one = numbered_more number_in place_in ds ds1 key d1 a.was a.here a.others h.descriptions

  pub holds_two : Holds ds2 os1 (n + 1 + 1) (m + 1)
  holds_two = record {
    descriptions = numbered_more number_in place_in ds1 ds2 other d2 c.was c.here c.others numbered_one;
    objects = numbered_more object_number_in object_in os os1 at t b.was b.here b.others h.objects;
    backed =
        let x0 = backed_object ds os os1 at t b h.backed in
        let x1 = backed_more ds ds1 os1 key d1 a x0 (record { it = t; is = b.here; number = refl; key_is = refl }) in
        backed_more ds1 ds2 os1 other d2 c x1 (record { it = t; is = b.here; number = refl; key_is = refl });
    owned = owned_object ds2 os os1 at t b (owned_more ds1 ds2 os other d2 c (owned_more ds ds1 os key d1 a h.owned)) owns_two;
  }

  places_first : places ds1 (n + 1) ≡ places ds n ++ Some (place_in d1) ∷ []
  places_first = contents_more number_in place_in ds ds1 key d1 a.was a.here a.others h.descriptions

  places_second : places ds2 (n + 1 + 1) ≡ places ds1 (n + 1) ++ Some (place_in d2) ∷ []
  places_second = contents_more number_in place_in ds1 ds2 other d2 c.was c.here c.others numbered_one

  pub places_two : places ds2 (n + 1 + 1) ≡ (places ds n ++ Some (place_in d1) ∷ []) ++ Some (place_in d2) ∷ []
  places_two = places_second ∙ ap (λ (xs : List (Option Place)). xs ++ Some (place_in d2) ∷ []) places_first

  pub objects_two : objects os1 (m + 1) ≡ objects os m ++ Some x ∷ []
  objects_two = contents_more object_number_in object_in os os1 at t b.was b.here b.others h.objects

  pub names_two : counts names_in ds2 (n + 1 + 1) ≡ (counts names_in ds n ++ 1 ∷ []) ++ 1 ∷ []
  names_two = counts_more names_in ds1 ds2 other d2 c numbered_one ∙ ap (λ (xs : List ℕ). xs ++ 1 ∷ []) (counts_more names_in ds ds1 key d1 a h.descriptions)

  pub holds_zeros : counts holds_in ds2 (n + 1 + 1) ≡ (counts holds_in ds n ++ 0 ∷ []) ++ 0 ∷ []
  holds_zeros = counts_more holds_in ds1 ds2 other d2 c numbered_one ∙ ap (λ (xs : List ℕ). xs ++ 0 ∷ []) (counts_more holds_in ds ds1 key d1 a h.descriptions)

  pub queue_two : (dying : List ℕ) → Queue (places ds n) (counts names_in ds n) (counts holds_in ds n) dying → Queue (places ds2 (n + 1 + 1)) (counts names_in ds2 (n + 1 + 1)) (counts holds_in ds2 (n + 1 + 1)) dying
  queue_two dying q =
      let first = queue_inserted ds n (place_in d1) dying (places ds1 (n + 1)) (counts names_in ds1 (n + 1)) (counts holds_in ds1 (n + 1)) places_first (counts_more names_in ds ds1 key d1 a h.descriptions) (counts_more holds_in ds ds1 key d1 a h.descriptions) q in
      queue_inserted ds1 (n + 1) (place_in d2) dying (places ds2 (n + 1 + 1)) (counts names_in ds2 (n + 1 + 1)) (counts holds_in ds2 (n + 1 + 1)) places_second (counts_more names_in ds1 ds2 other d2 c numbered_one) (counts_more holds_in ds1 ds2 other d2 c numbered_one) first

  pub fewer_two : (l : ℕ) → AllFewer ds l → AllFewer ds2 l
  fewer_two l f = fewer_more ds1 ds2 other d2 c l refl (fewer_more ds ds1 key d1 a l refl f)

  pub inserts_two : (v : Things) (dying : List ℕ) (named : ℕ) (losses : List Loss) → places ds n ≡ v.descriptions → objects os m ≡ v.objects → map key_number ds ≡ v.keys → counts names_in ds n ≡ v.names → counts holds_in ds n ≡ v.holds → dying ≡ v.dying → named ≡ v.named → losses ≡ []
      → InsertsTwo v (record { descriptions = places ds2 (n + 1 + 1); objects = objects os1 (m + 1); keys = map key_number ds2; names = counts names_in ds2 (n + 1 + 1); holds = counts holds_in ds2 (n + 1 + 1); dying = dying; named = named; losses = losses }) (record { 0 = key }) (record { 0 = other }) x
  inserts_two v dying named losses p q r en eh w el none =
      let lm : m ≡ length v.objects = sym (contents_length object_number_in object_in os m) ∙ ap (λ (xs : List (Option Object)). length xs) q in
      let ln : n ≡ length v.descriptions = sym (contents_length number_in place_in ds n) ∙ ap (λ (xs : List (Option Place)). length xs) p in
      let one = keys_more ds ds1 key d1 a in
      let two = keys_more ds1 ds2 other d2 c in
      record {
        descriptions = places_two ∙ (λ i. (p i ++ Some (record { object = lm i; side = First }) ∷ []) ++ Some (record { object = lm i; side = Second }) ∷ []);
        objects = objects_two ∙ ap (λ (xs : List (Option Object)). xs ++ Some x ∷ []) q;
        middle = map key_number ds1;
        first_key = subst (λ (i : ℕ). AddsKey v.keys (map key_number ds1) (record { 0 = key }) i) ln (subst (λ (xs : List (Option ℕ)). AddsKey xs (map key_number ds1) (record { 0 = key }) n) r one);
        second_key = subst (λ (i : ℕ). AddsKey (map key_number ds1) (map key_number ds2) (record { 0 = other }) (i + 1)) ln two;
        names = names_two ∙ ap (λ (xs : List ℕ). (xs ++ 1 ∷ []) ++ 1 ∷ []) en;
        holds = holds_zeros ∙ ap (λ (xs : List ℕ). (xs ++ 0 ∷ []) ++ 0 ∷ []) eh;
        dying = w;
        named = el;
        losses = none;
      }

  pub counted_two : (u v w : ℕ) → u ≡ length (numbered 0 (places ds n)) → v ≡ u + 1 → w ≡ v + 1 → w ≡ length (numbered 0 (places ds2 (n + 1 + 1)))
  counted_two u v w e f g = counted_more v w (places ds1 (n + 1)) (places ds2 (n + 1 + 1)) (place_in d2) (counted_more u v (places ds n) (places ds1 (n + 1)) (place_in d1) e f places_first) g places_second
