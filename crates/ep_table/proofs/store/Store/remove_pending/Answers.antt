use Rattle.std.proofs.Common.{List, Option, Some, ap, slice_get, slice_set, subst, sym, ◌∙◌, ◌≡◌}
use Rattle.ep_machine.specs.Connections.{pending_in, without_pending}
use Rattle.ep_machine.specs.Files.{object_number, place_of}
use Rattle.ep_machine.specs.Objects.{Object, name_in}
use Rattle.ep_object.proofs.NamingLemmas.{removed_name}
use Rattle.ep_object.specs.Connecting.{without_nth}
use Rattle.ep_table.proofs.AcceptingLemmas.{without_follows, without_is}
use Rattle.ep_table.proofs.ApplyLemmas.{backed_same, numbered_same, objects_same, owned_same, things_applied}
use Rattle.ep_table.proofs.ByNumberLemmas.{content_there}
use Rattle.ep_table.proofs.ConnectedLemmas.{Follows, all_stand, instances_follow, kept_follow}
use Rattle.ep_table.proofs.OwnersLemmas.{owners_kept}
use Rattle.ep_table.proofs.StoreLemmas.{object_found, object_there}
use Rattle.ep_table.proofs.TakingLemmas.{taking_kept}
use Rattle.ep_table.specs.Stored.{object_in, object_number_in, objects}
use Rattle.ep_table.specs.Taking.{Taking}
use Rattle.ep_table.specs.Value.{content_of, files_in, thing_number, unwrapped}
use Rattle.ep_table.proofs.store.Store.remove_pending.Goals as goal

pub index_mut-requires : goal.index_mut-requires
index_mut-requires g c = object_there c.self.inside c.args.self.now c.self.invariant c.self.view_is c.args.key c.index.result.now c.index.ensures

pub invariant_of-self : goal.invariant_of-self
invariant_of-self g c =
    let k = c.self.inside in
    let s = c.index_mut.result.now in
    let at = c.index.result.now.object in
    let is = c.index_mut.ensures.value in
    let y = c.remove_pending.new.self in
    let same : y ≡ without_nth c.args.index s.object = c.remove_pending.ensures in
    let name = ap name_in same ∙ removed_name c.args.index s.object in
    let follow = kept_follow k.objects.slots at s is (record s { object = y }) (subst (λ (x : Object). Follows s (record s { object = x })) (sym same) (without_follows c.args.index s)) in
    let os1 = slice_set k.objects.slots at (Some (record s { object = y })) in
    record {
      descriptions = c.self.invariant.descriptions;
      objects = numbered_same k.descriptions.slots k.objects.slots k.made at s is c.self.invariant.objects y;
      backed = backed_same k.descriptions.slots k.objects.slots k.made at s is c.self.invariant.objects y c.self.invariant.backed;
      owned = owned_same k.descriptions.slots k.objects.slots k.made at s is c.self.invariant.objects y c.self.invariant.owned;
      counted = c.self.invariant.counted;
      room = c.self.invariant.room;
      queue = c.self.invariant.queue;
      keyed = c.self.invariant.keyed;
      fewer = c.self.invariant.fewer;
      taken = subst (λ (xs : List (Option Object)). Taking k.taken.value xs) (sym (objects_same k.descriptions.slots k.objects.slots k.made at s is c.self.invariant.objects y))
          (taking_kept k.taken.value (objects k.objects.slots k.made) c.self.invariant.taken s.number s.object (content_there object_number_in object_in k.objects.slots k.made c.self.invariant.objects at s is) y name);
      owners = owners_kept k.taken.value k.taken.value k.objects.slots c.self.invariant.owners at s is (record s { object = y }) name;
      instances = instances_follow k.descriptions.slots k.objects.slots os1 follow c.self.invariant.instances;
      connected = all_stand k.waiting k.objects.slots os1 k.made follow c.self.invariant.connected;
      loss_room = c.self.invariant.loss_room;
    }

pub returns : goal.returns
returns g c = λ number place.
    let k = c.self.inside in
    let v = c.args.self.now in
    let s = c.index_mut.result.now in
    let d = c.index.result.now in
    let is = c.index_mut.ensures.value in
    let y = c.remove_pending.new.self in
    let content : s.object ≡ content_of (files_in v) (thing_number v c.args.key) = ap unwrapped (object_found k v c.self.invariant c.self.view_is c.args.key d c.index.ensures s is) in
    let there : slice_get (pending_in s.object) c.args.index ≡ Some number = ap (λ (x : Object). slice_get (pending_in x) c.args.index) content ∙ place in
    let same = c.remove_pending.ensures ∙ (without_is s.object c.args.index number (c.self.invariant.connected d.object s is).distinct there ∙ ap (without_pending number) content) in
    things_applied k v c.self.invariant c.self.view_is c.args.key d c.index.ensures s is y
    ∙ ap (λ (x : Object). record v { objects = slice_set v.objects (object_number (place_of (files_in v) (thing_number v c.args.key))) (Some x) }) same
