use Rattle.std.proofs.Common.{[], ◌++◌, ◌∷◌, None, IsSome, List, Option, Some, ap, arith, get_or, length, map, refl, slice_set, subst, sym, if◌then◌else◌, ◌∙◌, ◌≡◌}
use Rattle.ep_base.specs.declared.socket.Name.{Name}
use Rattle.ep_machine.specs.Lists.{numbered}
use Rattle.ep_machine.specs.Names.{is_there}
use Rattle.ep_names.specs.Names.{Taken, owner_of}
use Rattle.ep_table.specs.ByNumber.{NumberedBy}
use Rattle.ep_table.specs.Closing.{closed_slot}
use Rattle.ep_table.specs.Stored.{AllBacked, AllFewer, AllInstances, AllKeyed, AllOwned, counts, holds_in, key_number, names_in, number_in, object_in, object_number_in, objects, places, queued, things}
use Rattle.ep_table.specs.Value.{Queue, number_at}
use Rattle.ep_table.specs.declared.store.Store.TheInside.{Inside}
use Rattle.ep_table.specs.declared.words.Dying.{Dying}
use Rattle.ep_table.specs.declared.words.Description.{Description}
use Rattle.ep_table.specs.declared.words.Shared.{Shared}
use Rattle.ep_table.proofs.CloseLemmas.{backed_left, counted_left, left_was, numbered_left, objects_left, objects_shut, owned_left}
use Rattle.ep_machine.specs.Objects.{Object}
use Rattle.ep_table.proofs.ByNumberLemmas.{content_there}
use Rattle.ep_table.proofs.ConnectedLemmas.{all_stand, closed_follow, instances_fewer, instances_follow}
use Rattle.ep_table.specs.Connected.{AllStand}
use Rattle.ep_table.proofs.OwnersLemmas.{owners_closed}
use Rattle.ep_table.proofs.TakingLemmas.{less_held, taking_closed}
use Rattle.ep_table.specs.Taking.{AreOwners, Taking, freed_slot}
use Rattle.ep_table.proofs.DieLemmas.{dies, fewer_left, keyed_left, queue_left}
use Rattle.ep_table.proofs.QueueLemmas.{keyed_last}
use Rattle.ep_table.proofs.SoundLemmas.{there}
use Rattle.ep_table.proofs.StoreLemmas.{key_at, object_there}
use Rattle.ep_table.proofs.store.Store.take_dead.Goals as goal

-- the last of the queue stands under its key
keyed_at : {A : Type 0} (k : Inside A) (rest : List Dying) (last : Dying) → AllKeyed (map key_number k.descriptions.slots) k.dying.items → k.dying.items ≡ rest ++ last ∷ [] → number_at (map key_number k.descriptions.slots) last.key ≡ Some last.number
keyed_at k rest last h e = keyed_last (map key_number k.descriptions.slots) rest last (subst (λ (xs : List Dying). AllKeyed (map key_number k.descriptions.slots) xs) e h)

number_at_last : {A : Type 0} (k : Inside A) (rest : List Dying) (last : Dying) → AllKeyed (map key_number k.descriptions.slots) k.dying.items → k.dying.items ≡ rest ++ last ∷ [] → (d : Description) → get_or k.descriptions.slots last.key.0 None ≡ Some d → last.number ≡ d.number
number_at_last k rest last h e d is =
    let a : Some last.number ≡ Some d.number = sym (keyed_at k rest last h e) ∙ (key_at k.descriptions.slots last.key.0 ∙ ap key_number is) in
    cc

pub remove-description-requires : goal.remove-description-requires
remove-description-requires g c =
    let k = c.self.inside in
    let last = c.in_ok-last.last in
    let t = there k (things k) refl last.key last.number (keyed_at k c.pop.new.self.items last c.self.invariant.keyed c.in_ok-last.ensures.items) in
    subst (λ (o : Option Description). IsSome o) (sym t.is) refl

pub close-other-requires : goal.close-other-requires
close-other-requires g c = object_there c.self.inside c.args.self.now c.self.invariant c.self.view_is c.in_ok-last.last.key c.remove-description.result c.remove-description.ensures.value

pub invariant_of-self-2 : goal.invariant_of-self-2
invariant_of-self-2 g c =
    let k = c.self.inside in
    let i = c.self.invariant in
    let v = c.args.self.now in
    let same = c.self.view_is in
    let last = c.in_ok-last.last in
    let d = c.remove-description.result in
    let is = c.remove-description.ensures.value in
    let ds = k.descriptions.slots in
    let os = k.objects.slots in
    let rest = c.pop.new.self.items in
    let split = c.in_ok-last.ensures.items in
    let num = number_at_last k rest last i.keyed split d is in
    let f = c.remove-description.ensures.slots in
    let g : c.close-other.new.objects.slots ≡ slice_set os d.object (closed_slot (Some (i.backed last.key.0 d is).it) d.end) = c.close-other.ensures.slots ∙ ap (λ (o : Option Shared). slice_set os d.object (closed_slot o d.end)) (i.backed last.key.0 d is).is in
    let freed : (n : Name) → owner_of c.free_name.new.taken n ≡ (if is_there n c.close-other.result.2 then None else owner_of k.taken.value n) =
    λ n. c.free_name.ensures n ∙ ap (λ (t : Taken). if is_there n c.close-other.result.2 then None else owner_of t n) c.deref_mut.ensures.value in
    record {
      descriptions = subst (λ (xs : List (Option Description)). NumberedBy number_in xs k.described) (sym f) (numbered_left ds os k.described k.made i.descriptions i.objects i.backed i.owned last.key d is);
      objects = subst (λ (xs : List (Option Shared)). NumberedBy object_number_in xs k.made) (sym g) (objects_left ds os k.described k.made i.descriptions i.objects i.backed i.owned last.key d is);
      backed = subst (λ (xs : List (Option Description)). AllBacked xs c.close-other.new.objects.slots) (sym f) (subst (λ (xs : List (Option Shared)). AllBacked (slice_set ds last.key.0 None) xs) (sym g) (backed_left ds os k.described k.made i.descriptions i.objects i.backed i.owned last.key d is));
      owned = subst (λ (xs : List (Option Description)). AllOwned xs c.close-other.new.objects.slots) (sym f) (subst (λ (xs : List (Option Shared)). AllOwned (slice_set ds last.key.0 None) xs) (sym g) (owned_left ds os k.described k.made i.descriptions i.objects i.backed i.owned last.key d is));
      counted = counted_left ds os k.described k.made i.descriptions i.objects i.backed i.owned last.key d is _ _ i.counted c.remove-description.ensures.len ∙ ap (λ (xs : List (Option Description)). length (numbered 0 (places xs k.described))) (sym f);
      room = omega (arith, c.pop.ensures.capacity, i.room, c.remove-description.ensures.len);
      queue = subst (λ (xs : List (Option Description)). Queue (places xs k.described) (counts names_in xs k.described) (counts holds_in xs k.described) (queued rest)) (sym f) (queue_left k v i same last.key d is rest last split num);
      keyed = subst (λ (xs : List (Option Description)). AllKeyed (map key_number xs) rest) (sym f) (keyed_left k v i same last.key d is rest last split num);
      fewer = subst (λ (xs : List (Option Description)). AllFewer xs k.named) (sym f) (fewer_left k v i same last.key d is rest last split num);
      taken =
          let b = i.backed last.key.0 d is in
          subst (λ (xs : List (Option Object)). Taking c.free_name.new.taken xs)
          (sym (ap (λ (ys : List (Option Shared)). objects ys k.made) g ∙ objects_shut ds os k.described k.made i.descriptions i.objects i.backed i.owned last.key d is))
          (taking_closed k.taken.value c.free_name.new.taken (objects os k.made) i.taken b.it.number b.it d.end (content_there object_number_in object_in os k.made i.objects d.object b.it b.is)
          c.close-other.result.2 (c.close-other.ensures.name ∙ ap (λ (o : Option Shared). freed_slot o d.end) b.is) (less_held k.taken.value c.free_name.new.taken c.close-other.result.2 freed));
      owners =
          let b = i.backed last.key.0 d is in
          subst (λ (xs : List (Option Shared)). AreOwners c.free_name.new.taken xs) (sym g)
          (owners_closed k.taken.value c.free_name.new.taken os i.owners d.object b.it b.is d.end c.close-other.result.2 (c.close-other.ensures.name ∙ ap (λ (o : Option Shared). freed_slot o d.end) b.is) freed);
      instances =
          let b = i.backed last.key.0 d is in
          let was = instances_fewer ds (slice_set ds last.key.0 None) os (left_was ds os k.described k.made i.descriptions i.objects i.backed i.owned last.key d is) i.instances in
          subst (λ (xs : List (Option Description)). AllInstances xs c.close-other.new.objects.slots) (sym f)
          (subst (λ (xs : List (Option Shared)). AllInstances (slice_set ds last.key.0 None) xs) (sym g)
          (instances_follow (slice_set ds last.key.0 None) os (slice_set os d.object (closed_slot (Some b.it) d.end)) (closed_follow os d.object b.it b.is d.end) was));
      connected =
          let b = i.backed last.key.0 d is in
          subst (λ (xs : List (Option Shared)). AllStand k.waiting xs k.made) (sym g)
          (all_stand k.waiting os (slice_set os d.object (closed_slot (Some b.it) d.end)) k.made (closed_follow os d.object b.it b.is d.end) i.connected);
      loss_room = i.loss_room;
    }

pub returns-clause-some : goal.returns-clause-some
returns-clause-some g c =
    let k = c.self.inside in
    let last = c.in_ok-last.last in
    let d = c.remove-description.result in
    let is = c.remove-description.ensures.value in
    let num = number_at_last k c.pop.new.self.items last c.self.invariant.keyed c.in_ok-last.ensures.items d is in
    dies k c.args.self.now c.self.invariant c.self.view_is last.key d is c.pop.new.self.items last c.in_ok-last.ensures.items num
    c.remove-description.new.self.slots c.close-other.new.objects.slots (record { desc = last.key; end = d.end; other = c.close-other.result.1; raised = c.close-other.result.0 }) c.close-other.result.0
    c.remove-description.ensures.slots c.close-other.ensures.slots c.close-other.ensures.raised refl refl refl c.close-other.ensures.other
