-- The second end of a connection gets a description.
use Rattle.std.proofs.Common.{List, None, Option, Some, [], ap, false, get_or, if◌then◌else◌, inl, inr, length, map, refl, slice_set, subst, sym, unwrap_or, vec_capacity, ℕ, ◌++◌, ◌+◌, ◌==◌, ◌∙◌, ◌∷◌, ◌≡◌, ◌≢◌, ◌≤◌}
use Rattle.std.specs.declared.vec.Vec.{Vec}
use Rattle.std.proofs.lemmas.Bool.{false≢true}
use Rattle.slab.specs.Slab.{Slab, slab_len}
use Rattle.ep_base.specs.declared.ids.DescId.{DescId}
use Rattle.ep_base.specs.declared.object.End.{End}
use Rattle.ep_base.specs.declared.object.End.TheVariants.{First, Second}
use Rattle.ep_facts.proofs.NatFacts.{same_or_not}
use Rattle.ep_machine.specs.Connections.{accepted}
use Rattle.ep_machine.specs.Lists.{are_distinct, is_among}
use Rattle.ep_machine.specs.Objects.{Object, is_waiting, plain}
use Rattle.ep_names.specs.Numbers.{owner_at}
use Rattle.ep_object.proofs.ConnectionLemmas.{accepted_kind}
use Rattle.ep_object.proofs.NamingLemmas.{accepted_name}
use Rattle.ep_object.proofs.PendingLemmas.{accepted_pending, accepted_waits}
use Rattle.ep_table.proofs.ByNumberLemmas.{content_there, contents_length, contents_more, contents_next, next_here, next_other, numbered_more, numbered_next}
use Rattle.ep_table.proofs.ConnectedLemmas.{AllFollow, Follows, all_stand, instances_another, instances_follow, kept_follow, stand_less}
use Rattle.ep_table.proofs.InsertLemmas.{Inserted, counted_more, counts_more, fewer_more, kept, keys_more, queue_inserted}
use Rattle.ep_table.proofs.OwnersLemmas.{owners_kept}
use Rattle.ep_table.proofs.QueueLemmas.{keyed_more}
use Rattle.ep_table.proofs.TakingLemmas.{taking_kept}
use Rattle.ep_table.specs.Accepting.{Describes}
use Rattle.ep_table.specs.ByNumber.{NumberedBy}
use Rattle.ep_table.specs.Connected.{AllStand, WaitsAt}
use Rattle.ep_table.specs.Stored.{AllBacked, AllInstances, AllKeyed, AllOwned, Backs, IsStore, Owns, counts, holds_in, key_at as end_key, key_number, names_in, number_in, object_in, object_number_in, objects, place_in, places, queued, things}
use Rattle.ep_table.specs.Taking.{AreOwners, Taking}
use Rattle.ep_table.specs.Value.{AddsKey, Queue, Things}
use Rattle.ep_table.specs.declared.store.Store.TheInside.{Inside}
use Rattle.ep_table.specs.declared.words.Description.{Description}
use Rattle.ep_table.specs.declared.words.Dying.{Dying}
use Rattle.ep_table.specs.declared.words.Loss.{Loss}
use Rattle.ep_table.specs.declared.words.Shared.{Shared}

-- one that is accepted waits no more
accepted_follows : (s : Shared) (key : DescId) → Follows s (record s { object = accepted s.object; second = Some key })
accepted_follows s key = record {
  number = refl;
  kind = accepted_kind s.object;
  pending = λ n h. ap (λ (ks : List ℕ). is_among ks n) (sym (accepted_pending s.object)) ∙ h;
  distinct = λ h. ap are_distinct (accepted_pending s.object) ∙ h;
  waits = λ w. absurd (false≢true (sym (accepted_waits s.object) ∙ w));
  alone = λ w h. absurd (false≢true (sym (accepted_waits s.object) ∙ w));
  nameless = λ w h f. absurd (false≢true (sym (accepted_waits s.object) ∙ w));
}

module _ {A : Type 0} (k : Inside A) (v : Things) (inv : IsStore k) (same : things k ≡ v) (at number : ℕ) (w : WaitsAt k.objects.slots number at) (new : ℕ) (slab : Slab Description)
    (ins : Inserted k.descriptions.slots slab.slots new (record { number = k.described; object_number = number; object = at; end = Second; names = 1; holds = 0 })) where
  abbrev ds : List (Option Description)
  ds = k.descriptions.slots

  abbrev ds1 : List (Option Description)
  ds1 = slab.slots

  abbrev os : List (Option Shared)
  os = k.objects.slots

  abbrev d : Description
  d = record { number = k.described; object_number = number; object = at; end = Second; names = 1; holds = 0 }

  abbrev key : DescId
  key = record { 0 = new }

  abbrev s : Shared
  s = w.it

  abbrev pub t : Shared
  t = record s { object = accepted s.object; second = Some key }

  abbrev pub os1 : List (Option Shared)
  os1 = slice_set os at (Some t)

  keeps : (x : Shared) → Some t ≡ Some x → object_number_in x ≡ object_number_in s
  keeps x h = let e : t ≡ x = cc in sym (ap object_number_in e)

  here : get_or os1 at None ≡ Some t
  here = next_here object_number_in object_in os at s w.is k.made inv.objects (Some t) keeps

  elsewhere : (i : ℕ) → i ≢ at → get_or os1 i None ≡ get_or os i None
  elsewhere i ne = next_other object_number_in object_in os at s w.is k.made inv.objects (Some t) keeps i ne

  lone : s.second ≡ None
  lone = (inv.connected at s w.is).alone w.waits

  -- a description of it so far is one of its first end
  at_first : (e : End) (i : DescId) → end_key s e ≡ Some i → end_key t e ≡ Some i
  at_first First i h = h
  at_first Second i h = let clash : None ≡ Some i = sym lone ∙ h in absurd cc

  backed_accepted : AllBacked ds1 os1
  backed_accepted i x h = elim (same_or_not i new) [
    | inl to ↦
        let e : d ≡ x = (let y = ap (λ (j : ℕ). get_or ds1 j None) to in let z = ins.here in cc) in
        let b : Backs os1 new d = record { it = t; is = here; number = w.number_is; key_is = refl } in
        subst (λ (y : Description). Backs os1 i y) e (subst (λ (j : ℕ). Backs os1 j d) (sym to) b)
    | inr ne ↦
        let b = inv.backed i x (sym (ins.others i ne) ∙ h) in
        elim (same_or_not x.object at) [
          | inl to ↦
              let same : s ≡ b.it = (let y = b.is in let z = ap (λ (j : ℕ). get_or os j None) to in let u = w.is in cc) in
              record {
                it = t;
                is = ap (λ (j : ℕ). get_or os1 j None) to ∙ here;
                number = ap object_number_in same ∙ b.number;
                key_is = at_first x.end (record { 0 = i }) (ap (λ (y : Shared). end_key y x.end) same ∙ b.key_is);
              }
          | inr off ↦ record { it = b.it; is = elsewhere x.object off ∙ b.is; number = b.number; key_is = b.key_is }
        ]
  ]

  owns_kept : (i : ℕ) (e : End) (j : DescId) → Owns ds i e j → Owns ds1 i e j
  owns_kept i e j o = record { it = o.it; is = kept ds ds1 new d ins j.0 o.it o.is; object = o.object; end = o.end }

  owned_at : (e : End) (j : DescId) → end_key t e ≡ Some j → Owns ds1 at e j
  owned_at First j h = owns_kept at First j (inv.owned at s First j w.is h)
  owned_at Second j h =
      let y : new ≡ j.0 = ap (λ (i : DescId). i.0) (let z : key ≡ j = cc in z) in
      record { it = d; is = ap (λ (i : ℕ). get_or ds1 i None) (sym y) ∙ ins.here; object = refl; end = refl }

  owned_accepted : AllOwned ds1 os1
  owned_accepted i x e j h has = elim (same_or_not i at) [
    | inl to ↦
        let q : t ≡ x = (let y = here in let z = ap (λ (n : ℕ). get_or os1 n None) to in cc) in
        let o = owned_at e j (ap (λ (y : Shared). end_key y e) q ∙ has) in
        record { it = o.it; is = o.is; object = o.object ∙ sym to; end = o.end }
    | inr ne ↦ owns_kept i e j (inv.owned i x e j (sym (elsewhere i ne) ∙ h) has)
  ]

  objects_accepted : objects os1 k.made ≡ slice_set (objects os k.made) s.number (Some (accepted s.object))
  objects_accepted = contents_next object_number_in object_in os at s w.is k.made inv.objects (Some t) keeps

  places_accepted : places ds1 (k.described + 1) ≡ places ds k.described ++ Some (place_in d) ∷ []
  places_accepted = contents_more number_in place_in ds ds1 new d ins.was ins.here ins.others inv.descriptions

  names_accepted : counts names_in ds1 (k.described + 1) ≡ counts names_in ds k.described ++ 1 ∷ []
  names_accepted = counts_more names_in ds ds1 new d ins inv.descriptions

  holds_accepted : counts holds_in ds1 (k.described + 1) ≡ counts holds_in ds k.described ++ 0 ∷ []
  holds_accepted = counts_more holds_in ds ds1 new d ins inv.descriptions

  follow : AllFollow os os1
  follow = kept_follow os at s w.is t (accepted_follows s key)

  none_left : (i : ℕ) (x : Shared) → get_or os1 i None ≡ Some x → x.number ≡ number → is_waiting x.object ≡ false
  none_left i x is num = elim (same_or_not i at) [
    | inl to ↦
        let q : t ≡ x = (let y = here in let z = ap (λ (n : ℕ). get_or os1 n None) to in cc) in
        ap (λ (y : Shared). is_waiting y.object) (sym q) ∙ accepted_waits s.object
    | inr ne ↦ absurd (ne (inv.objects.one i at x s (sym (elsewhere i ne) ∙ is) w.is (num ∙ sym w.number_is)))
  ]

  module _ (oslab : Slab Shared) (dying : Vec Dying A) (waiting : List (ℕ × ℕ)) (losses : Vec Loss A) (slots : oslab.slots ≡ os1) (queue : dying.items ≡ k.dying.items)
      (left : (n : ℕ) → owner_at waiting n ≡ (if number == n then None else owner_at k.waiting n)) where
    abbrev pub accepting : Inside A
    accepting = record k { described = k.described + 1; descriptions = slab; objects = oslab; dying = dying; waiting = waiting; losses = losses }

    pub store_describes : slab_len slab ≡ slab_len k.descriptions + 1 → slab_len slab ≤ vec_capacity dying → length losses.items + length waiting ≤ vec_capacity losses → IsStore accepting
    store_describes len room loss_room = record {
      descriptions = numbered_more number_in place_in ds ds1 new d ins.was ins.here ins.others inv.descriptions;
      objects = subst (λ (xs : List (Option Shared)). NumberedBy object_number_in xs k.made) (sym slots) (numbered_next object_number_in object_in os at s w.is k.made inv.objects (Some t) keeps);
      backed = subst (λ (xs : List (Option Shared)). AllBacked ds1 xs) (sym slots) backed_accepted;
      owned = subst (λ (xs : List (Option Shared)). AllOwned ds1 xs) (sym slots) owned_accepted;
      counted = counted_more (slab_len k.descriptions) (slab_len slab) (places ds k.described) (places ds1 (k.described + 1)) (place_in d) inv.counted len places_accepted;
      room = room;
      queue = subst (λ (xs : List Dying). Queue (places ds1 (k.described + 1)) (counts names_in ds1 (k.described + 1)) (counts holds_in ds1 (k.described + 1)) (queued xs)) (sym queue)
          (queue_inserted ds k.described (place_in d) (queued k.dying.items) (places ds1 (k.described + 1)) (counts names_in ds1 (k.described + 1)) (counts holds_in ds1 (k.described + 1)) places_accepted names_accepted holds_accepted inv.queue);
      keyed = subst (λ (xs : List Dying). AllKeyed (map key_number ds1) xs) (sym queue) (keyed_more (map key_number ds) (map key_number ds1) key k.described (keys_more ds ds1 new d ins) k.dying.items inv.keyed);
      fewer = fewer_more ds ds1 new d ins k.named refl inv.fewer;
      taken = subst (λ (xs : List (Option Shared)). Taking k.taken.value (objects xs k.made)) (sym slots)
          (subst (λ (ys : List (Option Object)). Taking k.taken.value ys) (sym objects_accepted)
          (taking_kept k.taken.value (objects os k.made) inv.taken s.number s.object (content_there object_number_in object_in os k.made inv.objects at s w.is) (accepted s.object) (accepted_name s.object)));
      owners = subst (λ (xs : List (Option Shared)). AreOwners k.taken.value xs) (sym slots) (owners_kept k.taken.value k.taken.value os inv.owners at s w.is t (accepted_name s.object));
      instances = subst (λ (xs : List (Option Shared)). AllInstances ds1 xs) (sym slots) (instances_another ds ds1 os1 new d ins refl (instances_follow ds os os1 follow inv.instances));
      connected = subst (λ (xs : List (Option Shared)). AllStand waiting xs k.made) (sym slots)
          (stand_less k.waiting os1 k.made (all_stand k.waiting os os1 k.made follow inv.connected) waiting number left none_left);
      loss_room = loss_room;
    }

    content : unwrap_or (get_or (objects os k.made) number None) plain ≡ s.object
    content =
        ap (λ (n : ℕ). unwrap_or (get_or (objects os k.made) n None) plain) (sym w.number_is)
        ∙ ap (λ (o : Option Object). unwrap_or o plain) (content_there object_number_in object_in os k.made inv.objects at s w.is)

    pub describes : losses.items ≡ [] → Describes v (things accepting) number key
    describes none =
        let ln : k.described ≡ length v.descriptions = sym (contents_length number_in place_in ds k.described) ∙ ap (λ (x : Things). length x.descriptions) same in
        record {
          descriptions = places_accepted ∙ ap (λ (x : Things). x.descriptions ++ Some (place_in d) ∷ []) same;
          objects =
              ap (λ (xs : List (Option Shared)). objects xs k.made) slots
              ∙ (objects_accepted
              ∙ ((λ i. slice_set (objects os k.made) (w.number_is i) (Some (accepted (sym content i))))
              ∙ ap (λ (x : Things). slice_set x.objects number (Some (accepted (unwrap_or (get_or x.objects number None) plain)))) same));
          keys = subst (λ (i : ℕ). AddsKey v.keys (map key_number ds1) key i) ln (subst (λ (xs : List (Option ℕ)). AddsKey xs (map key_number ds1) key k.described) (ap (λ (x : Things). x.keys) same) (keys_more ds ds1 new d ins));
          names = names_accepted ∙ ap (λ (x : Things). x.names ++ 1 ∷ []) same;
          holds = holds_accepted ∙ ap (λ (x : Things). x.holds ++ 0 ∷ []) same;
          dying = ap queued queue ∙ ap (λ (x : Things). x.dying) same;
          named = ap (λ (x : Things). x.named) same;
          losses = none;
        }
