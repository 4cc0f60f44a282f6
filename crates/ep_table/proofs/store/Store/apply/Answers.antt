use Rattle.std.proofs.Common.{◌∙◌, true, ap, sym, ◌≡◌, slice_set, Some, Bool, List, None, Option}
use Rattle.ep_machine.specs.Files.{object_number, place_of}
use Rattle.ep_base.specs.declared.errno.Errno.{Errno}
use Rattle.ep_machine.specs.Effect.{first}
use Rattle.ep_machine.specs.Objects.{is_waiting, Object, object_refusals}
use Rattle.ep_table.specs.Value.{Things, files_in, thing_number}
use Rattle.ep_table.proofs.ApplyLemmas.{backed_same, effect_is, err_same, numbered_same, ok_answer, ok_content, ok_raised, owned_same, things_applied, things_kept}
use Rattle.ep_table.proofs.StoreLemmas.{object_found, object_there, side_is}
use Rattle.std.proofs.Common.{min, subst, ℕ, ◌≤◌}
use Rattle.ep_object.specs.Memory.{asked_of, object_waiting}
use Rattle.ep_table.specs.Value.{refusals_at, unwrapped, waiting_at}
use Rattle.ep_table.proofs.ApplyLemmas.{objects_same}
use Rattle.ep_table.proofs.ByNumberLemmas.{content_there}
use Rattle.ep_table.proofs.ConnectedLemmas.{AllFollow, all_stand, first_is_there, instances_follow, kept_follow, left_follows}
use Rattle.ep_table.proofs.OwnersLemmas.{owners_kept}
use Rattle.ep_table.proofs.TakingLemmas.{long_is_last, name_left, taking_kept}
use Rattle.ep_machine.specs.Objects.{name_in}
use Rattle.ep_table.specs.Stored.{key_at as end_key, object_in, object_number_in, objects}
use Rattle.ep_table.specs.Taking.{Taking}
use Rattle.ep_table.specs.declared.words.Shared.{Shared}
use Rattle.ep_table.proofs.store.Store.apply.Given.{Over}
use Rattle.ep_table.proofs.store.Store.apply.Goals as goal

pub index_mut-shared-requires : goal.index_mut-shared-requires
index_mut-shared-requires g c = object_there c.self.inside c.args.self.now c.self.invariant c.self.view_is c.args.key c.index-description.result.now c.index-description.ensures

named : (g : Over) (c : goal.After-self-1 g) → name_in c.apply.new.self ≡ name_in c.index_mut-shared.result.now.object
named g c = name_left c.apply.result c.index_mut-shared.result.now.object c.apply.new.self c.index-description.result.now.end c.args.now c.args.call.now c.known.ensures c.apply.ensures.ok c.apply.ensures.err

first_there : (g : Over) (c : goal.After-self-1 g) → is_waiting c.index_mut-shared.result.now.object ≡ true → c.index_mut-shared.result.now.first ≡ None → ⊥
first_there g c waits none =
    let d = c.index-description.result.now in
    let s = c.index_mut-shared.result.now in
    let is = c.index_mut-shared.ensures.value in
    let b = c.self.invariant.backed c.args.key.0 d c.index-description.ensures in
    let same : b.it ≡ s = (let y = b.is in let z = is in cc) in
    first_is_there s d.end c.args.key (ap (λ (x : Shared). end_key x d.end) (sym same) ∙ b.key_is) ((c.self.invariant.connected d.object s is).alone waits) none

follow : (g : Over) (c : goal.After-self-1 g) → AllFollow c.self.inside.objects.slots (slice_set c.self.inside.objects.slots c.index-description.result.now.object (Some (record c.index_mut-shared.result.now { object = c.apply.new.self })))
follow g c =
    let s = c.index_mut-shared.result.now in
    let y = c.apply.new.self in
    kept_follow c.self.inside.objects.slots c.index-description.result.now.object s c.index_mut-shared.ensures.value (record s { object = y })
    (left_follows s c.index-description.result.now.end c.args.now c.args.call.now (first_there g c) c.apply.result y c.apply.ensures.ok c.apply.ensures.err)

pub invariant_of-self : goal.invariant_of-self
invariant_of-self g c =
    let k = c.self.inside in
    let s = c.index_mut-shared.result.now in
    let at = c.index-description.result.now.object in
    let is = c.index_mut-shared.ensures.value in
    let y = c.apply.new.self in
    record {
      descriptions = c.self.invariant.descriptions;
      objects = numbered_same k.descriptions.slots k.objects.slots k.made at s is c.self.invariant.objects y;
      backed = backed_same k.descriptions.slots k.objects.slots k.made at s is c.self.invariant.objects y c.self.invariant.backed;
      owned = owned_same k.descriptions.slots k.objects.slots k.made at s is c.self.invariant.objects y c.self.invariant.owned;
      counted = c.self.invariant.counted;
      room = c.self.invariant.room;
      queue = c.self.invariant.queue;
      keyed = c.self.invariant.keyed;
      fewer = c.self.invariant.fewer;
      taken = subst (λ (xs : List (Option Object)). Taking k.taken.value xs) (sym (objects_same k.descriptions.slots k.objects.slots k.made at s is c.self.invariant.objects y))
          (taking_kept k.taken.value (objects k.objects.slots k.made) c.self.invariant.taken s.number s.object (content_there object_number_in object_in k.objects.slots k.made c.self.invariant.objects at s is) y (named g c));
      owners = owners_kept k.taken.value k.taken.value k.objects.slots c.self.invariant.owners at s is (record s { object = y }) (named g c);
      instances = instances_follow k.descriptions.slots k.objects.slots (slice_set k.objects.slots at (Some (record s { object = y }))) (follow g c) c.self.invariant.instances;
      connected = all_stand k.waiting k.objects.slots (slice_set k.objects.slots at (Some (record s { object = y }))) k.made (follow g c) c.self.invariant.connected;
      loss_room = c.self.invariant.loss_room;
    }

pub returns-clause-answer : goal.returns-clause-answer
returns-clause-answer g c =
    let e = effect_is c.self.inside c.args.self.now c.self.invariant c.self.view_is c.args.key c.index-description.result.now c.index-description.ensures c.index_mut-shared.result.now c.index_mut-shared.ensures.value c.args.now c.args.call.now in
    ok_answer c.apply.result c.apply.new.self _ _ e c.apply.ensures.ok

pub returns-clause-raised : goal.returns-clause-raised
returns-clause-raised g c =
    let e = effect_is c.self.inside c.args.self.now c.self.invariant c.self.view_is c.args.key c.index-description.result.now c.index-description.ensures c.index_mut-shared.result.now c.index_mut-shared.ensures.value c.args.now c.args.call.now in
    ok_raised c.apply.result c.apply.new.self _ _ e c.apply.ensures.ok

pub returns-clause-objects : goal.returns-clause-objects
returns-clause-objects g c =
    let v = c.args.self.now in
    let d = c.index-description.result.now in
    let s = c.index_mut-shared.result.now in
    let e = effect_is c.self.inside v c.self.invariant c.self.view_is c.args.key d c.index-description.ensures s c.index_mut-shared.ensures.value c.args.now c.args.call.now in
    let t = things_applied c.self.inside v c.self.invariant c.self.view_is c.args.key d c.index-description.ensures s c.index_mut-shared.ensures.value c.apply.new.self in
    let u : Object → Things = λ y. record v { objects = slice_set v.objects (object_number (place_of (files_in v) (thing_number v c.args.key))) (Some y) } in
    ok_content c.apply.result c.apply.new.self _ _ Things _ u t e c.apply.ensures.ok

pub returns-clause-err : goal.returns-clause-err
returns-clause-err g c =
    let v = c.args.self.now in
    let d = c.index-description.result.now in
    let s = c.index_mut-shared.result.now in
    err_same c.apply.result _ _ (λ (e : c.apply.new.self ≡ s.object). things_kept c.self.inside v c.self.invariant c.self.view_is c.args.key d c.index-description.ensures s c.index_mut-shared.ensures.value c.apply.new.self e) c.apply.ensures.err

pub returns-clause-inline : goal.returns-clause-inline
returns-clause-inline g c =
    let v = c.args.self.now in
    let d = c.index-description.result.now in
    let s = c.index_mut-shared.result.now in
    let o = object_found c.self.inside v c.self.invariant c.self.view_is c.args.key d c.index-description.ensures s c.index_mut-shared.ensures.value in
    let e = side_is c.self.inside v c.self.invariant c.self.view_is c.args.key d c.index-description.ensures in
    let call = c.args.call.now in
    let w : object_waiting s.object d.end call ≡ waiting_at (files_in v) (thing_number v c.args.key) call = λ i. object_waiting (ap unwrapped o i) (sym e i) call in
    λ h. c.apply.ensures.inline (subst (λ (n : ℕ). min (asked_of call) n ≤ 16) (sym w) h)

pub returns-clause-last : goal.returns-clause-last
returns-clause-last g c =
    let v = c.args.self.now in
    let d = c.index-description.result.now in
    let s = c.index_mut-shared.result.now in
    let o = object_found c.self.inside v c.self.invariant c.self.view_is c.args.key d c.index-description.ensures s c.index_mut-shared.ensures.value in
    let e = side_is c.self.inside v c.self.invariant c.self.view_is c.args.key d c.index-description.ensures in
    let call = c.args.call.now in
    let there : object_refusals s.object d.end c.args.now call ≡ refusals_at (files_in v) (thing_number v c.args.key) c.args.now call = λ i. object_refusals (ap unwrapped o i) (sym e i) c.args.now call in
    err_same c.apply.result _ _ (λ h. subst (λ (rows : List (Bool × Errno)). first rows ≡ None) there h)
    (long_is_last c.apply.result s.object d.end c.args.now call c.apply.ensures.inline)
