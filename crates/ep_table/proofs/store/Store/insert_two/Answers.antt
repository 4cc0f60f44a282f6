use Rattle.std.proofs.Common.{map, List, Option, Some, ap, arith, count_by, is_some, length, subst, sym, ◌+◌, ◌∙◌, ◌≡◌, ℕ, refl}
use Rattle.slab.specs.Slab.{slab_len}
use Rattle.ep_base.specs.declared.object.End.TheVariants.{First, Second}
use Rattle.ep_table.specs.Stored.{objects, counts, holds_in, names_in, places, AllKeyed, key_number, queued, number_in, object_in, object_number_in, place_in}
use Rattle.ep_table.specs.Value.{Queue, Things}
use Rattle.ep_table.specs.declared.words.Description.{Description}
use Rattle.ep_table.specs.declared.words.Dying.{Dying}
use Rattle.ep_table.specs.declared.words.Shared.{Shared}
use Rattle.ep_table.proofs.ConnectedLemmas.{instances_another, instances_more, stand_more}
use Rattle.ep_table.specs.declared.words.Loss.{Loss}
use Rattle.ep_table.proofs.QueueLemmas.{keyed_more}
use Rattle.ep_machine.specs.Objects.{Object}
use Rattle.ep_table.proofs.OwnersLemmas.{owners_more}
use Rattle.ep_table.proofs.TakingLemmas.{taking_push}
use Rattle.ep_table.specs.Taking.{Taking}
use Rattle.ep_table.proofs.InsertLemmas.{objects_two, fewer_two, keys_more, queue_two, Inserted, counted_two, holds_of, holds_two, inserted, inserts_two, roomier}
use Rattle.ep_table.proofs.ByNumberLemmas.{contents_length}
use Rattle.ep_table.proofs.store.Store.insert_two.Given.{Over}
use Rattle.ep_table.proofs.store.Store.insert_two.Goals as goal

pub overflow_add-self : goal.overflow_add-self
overflow_add-self g c = omega (arith, c.in_ok-has_numbers.ensures.descriptions, ap (λ (v : Things). length v.descriptions) c.self.view_is, contents_length number_in place_in c.self.inside.descriptions.slots c.self.inside.described)

pub overflow_add-self-2 : goal.overflow_add-self-2
overflow_add-self-2 g c = omega (arith, c.in_ok-has_numbers.ensures.descriptions, ap (λ (v : Things). length v.descriptions) c.self.view_is, contents_length number_in place_in c.self.inside.descriptions.slots c.self.inside.described)

pub overflow_add-self-3 : goal.overflow_add-self-3
overflow_add-self-3 g c = omega (arith, c.in_ok-has_numbers.ensures.objects, ap (λ (v : Things). length v.objects) c.self.view_is, contents_length object_number_in object_in c.self.inside.objects.slots c.self.inside.made)

first_in : (g : Over) (c : goal.After-clear g) → Inserted c.self.inside.descriptions.slots c.insert_reserved-first.new.self.slots c.insert_reserved-first.result (record { number = c.self.inside.described; object_number = c.self.inside.made; object = c.vacant_key-at.result; end = First; names = 1; holds = 0 })
first_in g c = inserted c.self.inside.descriptions.slots c.reserve.new.descriptions c.insert_reserved-first.new.self c.insert_reserved-first.result _ c.reserve.ensures.descriptions c.insert_reserved-first.ensures.was_vacant c.insert_reserved-first.ensures.updates

second_in : (g : Over) (c : goal.After-clear g) → Inserted c.insert_reserved-first.new.self.slots c.insert_reserved-second.new.self.slots c.insert_reserved-second.result (record { number = c.self.inside.described + 1; object_number = c.self.inside.made; object = c.vacant_key-at.result; end = Second; names = 1; holds = 0 })
second_in g c = inserted c.insert_reserved-first.new.self.slots c.insert_reserved-first.new.self c.insert_reserved-second.new.self c.insert_reserved-second.result _ refl c.insert_reserved-second.ensures.was_vacant c.insert_reserved-second.ensures.updates

shared_in : (g : Over) (c : goal.After-clear g) → Inserted c.self.inside.objects.slots c.insert_reserved.new.self.slots c.vacant_key-at.result (record { number = c.self.inside.made; object = c.args.object; first = Some (record { 0 = c.insert_reserved-first.result }); second = Some (record { 0 = c.insert_reserved-second.result }) })
shared_in g c =
    let s : Shared = record { number = c.self.inside.made; object = c.args.object; first = Some (record { 0 = c.insert_reserved-first.result }); second = Some (record { 0 = c.insert_reserved-second.result }) } in
    let i = inserted c.self.inside.objects.slots c.reserve.new.objects c.insert_reserved.new.self c.insert_reserved.result s c.reserve.ensures.objects c.insert_reserved.ensures.was_vacant c.insert_reserved.ensures.updates in
    let e : c.insert_reserved.result ≡ c.vacant_key-at.result = c.insert_reserved.ensures.key ∙ sym c.vacant_key-at.ensures.value in
    subst (λ (at : ℕ). Inserted c.self.inside.objects.slots c.insert_reserved.new.self.slots at s) e i

-- no memory: nothing has changed
pub invariant_of-self : goal.invariant_of-self
invariant_of-self g c = let r = c.reserve in roomier c.self.inside c.self.invariant r.new.descriptions r.new.objects r.new.dying r.ensures.descriptions r.ensures.objects r.ensures.dying r.ensures.grown

pub invariant_of-self-2 : goal.invariant_of-self-2
invariant_of-self-2 g c =
    let k = c.self.inside in
    let h = holds_of k c.self.invariant in
    let r = holds_two k.descriptions.slots c.insert_reserved-first.new.self.slots c.insert_reserved-second.new.self.slots k.objects.slots c.insert_reserved.new.self.slots k.described k.made c.insert_reserved-first.result c.insert_reserved-second.result c.vacant_key-at.result c.args.object (first_in g c) (second_in g c) (shared_in g c) h in
    let l : slab_len c.insert_reserved-first.new.self ≡ slab_len k.descriptions + 1 = c.insert_reserved-first.ensures.len ∙ ap (λ (xs : List (Option Description)). count_by is_some xs + 1) c.reserve.ensures.descriptions in
    record {
      descriptions = r.descriptions;
      objects = r.objects;
      backed = r.backed;
      owned = r.owned;
      counted = counted_two k.descriptions.slots c.insert_reserved-first.new.self.slots c.insert_reserved-second.new.self.slots k.objects.slots c.insert_reserved.new.self.slots k.described k.made c.insert_reserved-first.result c.insert_reserved-second.result c.vacant_key-at.result c.args.object (first_in g c) (second_in g c) (shared_in g c) h
          (slab_len k.descriptions) (slab_len c.insert_reserved-first.new.self) (slab_len c.insert_reserved-second.new.self) c.self.invariant.counted l c.insert_reserved-second.ensures.len;
      room = omega (arith, c.in_ok-reserve.ensures.death_room, c.insert_reserved-first.ensures.len, c.insert_reserved-second.ensures.len);
      queue = subst (λ (xs : List ℕ). Queue (places c.insert_reserved-second.new.self.slots (k.described + 1 + 1)) (counts names_in c.insert_reserved-second.new.self.slots (k.described + 1 + 1)) (counts holds_in c.insert_reserved-second.new.self.slots (k.described + 1 + 1)) xs) (sym (ap queued c.reserve.ensures.dying)) (queue_two k.descriptions.slots c.insert_reserved-first.new.self.slots c.insert_reserved-second.new.self.slots k.objects.slots c.insert_reserved.new.self.slots k.described k.made c.insert_reserved-first.result c.insert_reserved-second.result c.vacant_key-at.result c.args.object (first_in g c) (second_in g c) (shared_in g c) h (queued k.dying.items) c.self.invariant.queue);
      keyed = subst (λ (xs : List Dying). AllKeyed (map key_number c.insert_reserved-second.new.self.slots) xs) (sym c.reserve.ensures.dying) (keyed_more (map key_number c.insert_reserved-first.new.self.slots) (map key_number c.insert_reserved-second.new.self.slots) (record { 0 = c.insert_reserved-second.result }) (k.described + 1) (keys_more c.insert_reserved-first.new.self.slots c.insert_reserved-second.new.self.slots c.insert_reserved-second.result (record { number = k.described + 1; object_number = k.made; object = c.vacant_key-at.result; end = Second; names = 1; holds = 0 }) (second_in g c)) k.dying.items
          (keyed_more (map key_number k.descriptions.slots) (map key_number c.insert_reserved-first.new.self.slots) (record { 0 = c.insert_reserved-first.result }) k.described (keys_more k.descriptions.slots c.insert_reserved-first.new.self.slots c.insert_reserved-first.result (record { number = k.described; object_number = k.made; object = c.vacant_key-at.result; end = First; names = 1; holds = 0 }) (first_in g c)) k.dying.items c.self.invariant.keyed));
      fewer = fewer_two k.descriptions.slots c.insert_reserved-first.new.self.slots c.insert_reserved-second.new.self.slots k.objects.slots c.insert_reserved.new.self.slots k.described k.made c.insert_reserved-first.result c.insert_reserved-second.result c.vacant_key-at.result c.args.object (first_in g c) (second_in g c) (shared_in g c) h k.named c.self.invariant.fewer;
      taken = subst (λ (xs : List (Option Object)). Taking k.taken.value xs) (sym (objects_two k.descriptions.slots c.insert_reserved-first.new.self.slots c.insert_reserved-second.new.self.slots k.objects.slots c.insert_reserved.new.self.slots k.described k.made c.insert_reserved-first.result c.insert_reserved-second.result c.vacant_key-at.result c.args.object (first_in g c) (second_in g c) (shared_in g c) h)) (taking_push k.taken.value (objects k.objects.slots k.made) c.self.invariant.taken c.args.object c.requires.unnamed);
      owners = owners_more k.taken.value k.objects.slots c.insert_reserved.new.self.slots c.vacant_key-at.result _ (shared_in g c) c.self.invariant.owners;
      instances =
          let one = instances_more k.descriptions.slots c.insert_reserved-first.new.self.slots k.objects.slots c.insert_reserved.new.self.slots c.insert_reserved-first.result c.vacant_key-at.result _ _ (first_in g c) (shared_in g c) refl c.self.invariant.backed c.self.invariant.instances in
          instances_another c.insert_reserved-first.new.self.slots c.insert_reserved-second.new.self.slots c.insert_reserved.new.self.slots c.insert_reserved-second.result _ (second_in g c) refl one;
      connected = stand_more k.waiting k.objects.slots k.made c.self.invariant.connected c.insert_reserved.new.self.slots c.vacant_key-at.result _ (shared_in g c) refl c.requires.quiet.accepted c.requires.quiet.alone;
      loss_room = omega (arith, c.self.invariant.loss_room, c.clear.ensures.capacity, ap (λ (xs : List Loss). length xs) c.clear.ensures.items);
    }

pub returns-clause-ok : goal.returns-clause-ok
returns-clause-ok g c =
    let k = c.self.inside in
    inserts_two k.descriptions.slots c.insert_reserved-first.new.self.slots c.insert_reserved-second.new.self.slots k.objects.slots c.insert_reserved.new.self.slots k.described k.made c.insert_reserved-first.result c.insert_reserved-second.result c.vacant_key-at.result c.args.object (first_in g c) (second_in g c) (shared_in g c) (holds_of k c.self.invariant)
    c.args.self.now _ _ _ (ap (λ (v : Things). v.descriptions) c.self.view_is) (ap (λ (v : Things). v.objects) c.self.view_is) (ap (λ (v : Things). v.keys) c.self.view_is) (ap (λ (v : Things). v.names) c.self.view_is) (ap (λ (v : Things). v.holds) c.self.view_is) (ap queued c.reserve.ensures.dying ∙ ap (λ (v : Things). v.dying) c.self.view_is) (ap (λ (v : Things). v.named) c.self.view_is) c.clear.ensures.items
