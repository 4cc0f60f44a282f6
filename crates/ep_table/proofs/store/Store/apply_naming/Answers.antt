use Rattle.std.proofs.Common.{true, ap, refl, sym, subst, if◌then◌else◌, ◌∙◌, ◌≡◌, slice_set, Some, Bool, List, None, Option, ℕ}
use Rattle.std.proofs.lemmas.Bool.{false≢true}
use Rattle.ep_base.specs.declared.errno.Errno.{Errno}
use Rattle.ep_base.specs.declared.socket.Name.{Name}
use Rattle.ep_machine.specs.Effect.{Effect, first}
use Rattle.ep_machine.specs.Files.{object_number, place_of}
use Rattle.ep_machine.specs.Objects.{is_waiting, Object, object_refusals}
use Rattle.ep_machine.specs.Names.{is_there}
use Rattle.ep_names.specs.Names.{Taken, owner_of}
use Rattle.ep_object.specs.Naming.{Gains}
use Rattle.ep_table.proofs.ApplyLemmas.{backed_same, effect_is, numbered_same, objects_same, owned_same, set_get, things_applied, things_kept}
use Rattle.ep_table.proofs.ByNumberLemmas.{content_there}
use Rattle.ep_table.proofs.ConnectedLemmas.{AllFollow, all_stand, first_is_there, called_follows, instances_follow, kept_follow}
use Rattle.ep_table.proofs.OwnersLemmas.{owners_named}
use Rattle.ep_table.proofs.ProcessesLemmas.{on_err}
use Rattle.ep_table.proofs.StoreLemmas.{object_found, object_there, side_is}
use Rattle.ep_table.proofs.TakingLemmas.{gained_is_free, more_held, named_is_last, none_gained, taking_called}
use Rattle.ep_table.specs.Stored.{key_at as end_key, IsStore, object_in, object_number_in, objects}
use Rattle.ep_table.specs.Taking.{FindsFree, Taking}
use Rattle.ep_table.specs.Value.{Things, effect_at, files_in, refusals_at, thing_number, unwrapped}
use Rattle.ep_table.specs.declared.words.Shared.{Shared}
use Rattle.ep_table.proofs.store.Store.apply_naming.Given.{Over}
use Rattle.ep_table.proofs.store.Store.apply_naming.Goals as goal

pub index_mut-shared-requires : goal.index_mut-shared-requires
index_mut-shared-requires g c = object_there c.self.inside c.args.self.now c.self.invariant c.self.view_is c.args.key c.index-description.result.now c.index-description.ensures

gained : (g : Over) (c : goal.After-self-2-1 g) → Gains c.index_mut-shared.result.now.object c.apply_naming.new.self c.gains.result
gained g c =
    let x = c.index_mut-shared.result.now.object in
    let e = c.index-description.result.now.end in
    subst (λ (y : Object). Gains x y c.gains.result) (sym (ap (λ (f : Effect Object). f.1) (c.apply_naming.ensures e 0))) (c.gains.ensures.gains e 0)

gained_owners : (g : Over) (c : goal.After-self-2-1 g) (n : Name) → owner_of c.take_gained.new.taken n ≡ (if is_there n c.gains.result then Some c.index-description.result.now.object else owner_of c.self.inside.taken.value n)
gained_owners g c n =
    c.in_ok-take_gained.ensures.ok n
    ∙ ap (λ (t : Taken). if is_there n c.gains.result then Some c.index-description.result.now.object else owner_of t n) c.deref_mut.ensures.value

taking_after : (g : Over) (c : goal.After-self-2-1 g) → Taking c.take_gained.new.taken (slice_set (objects c.self.inside.objects.slots c.self.inside.made) c.index_mut-shared.result.now.number (Some c.apply_naming.new.self))
taking_after g c =
    let k = c.self.inside in
    let s = c.index_mut-shared.result.now in
    let asked = c.args.call.now in
    let os = objects k.objects.slots k.made in
    let is = content_there object_number_in object_in k.objects.slots k.made c.self.invariant.objects c.index-description.result.now.object s c.index_mut-shared.ensures.value in
    let free = subst (λ (v : Things). FindsFree v.objects asked) (sym c.self.view_is) c.requires.free in
    taking_called k.taken.value os c.self.invariant.taken s.number s.object is c.apply_naming.new.self c.gains.result c.take_gained.new.taken (gained g c)
    (gained_is_free os asked c.gains.result c.gains.ensures.found free)
    (more_held k.taken.value c.take_gained.new.taken c.gains.result c.index-description.result.now.object (gained_owners g c))

first_there : (g : Over) (c : goal.After-self-2-1 g) → is_waiting c.index_mut-shared.result.now.object ≡ true → c.index_mut-shared.result.now.first ≡ None → ⊥
first_there g c waits none =
    let d = c.index-description.result.now in
    let s = c.index_mut-shared.result.now in
    let is = c.index_mut-shared.ensures.value in
    let b = c.self.invariant.backed c.args.key.0 d c.index-description.ensures in
    let same : b.it ≡ s = (let y = b.is in let z = is in cc) in
    first_is_there s d.end c.args.key (ap (λ (x : Shared). end_key x d.end) (sym same) ∙ b.key_is) ((c.self.invariant.connected d.object s is).alone waits) none

follow : (g : Over) (c : goal.After-self-2-1 g) → AllFollow c.self.inside.objects.slots (slice_set c.self.inside.objects.slots c.index-description.result.now.object (Some (record c.index_mut-shared.result.now { object = c.apply_naming.new.self })))
follow g c =
    let s = c.index_mut-shared.result.now in
    let y = c.apply_naming.new.self in
    let e = c.index-description.result.now.end in
    kept_follow c.self.inside.objects.slots c.index-description.result.now.object s c.index_mut-shared.ensures.value (record s { object = y })
    (called_follows s e 0 c.args.call.now (first_there g c) y (ap (λ (f : Effect Object). f.1) (c.apply_naming.ensures e 0)))

-- no memory for the name: nothing has changed
pub invariant_of-self : goal.invariant_of-self
invariant_of-self g c =
    let k = c.self.inside in
    let s = c.index_mut-shared.result.now in
    let same = set_get k.objects.slots c.index-description.result.now.object s c.index_mut-shared.ensures.value in
    subst (λ (xs : List (Option Shared)). IsStore (record k { objects = record k.objects { slots = xs }; taken = record k.taken { value = c.take_gained.new.taken } })) (sym same)
    (subst (λ (names : Taken). IsStore (record k { taken = record k.taken { value = names } })) (sym (c.in_err-take_gained.ensures.err ∙ c.deref_mut.ensures.value)) c.self.invariant)

pub returns-in_err-take_gained-clause-err : goal.returns-in_err-take_gained-clause-err
returns-in_err-take_gained-clause-err g c =
    let s = c.index_mut-shared.result.now in
    on_err c.from_residual.result _ (things_kept c.self.inside c.args.self.now c.self.invariant c.self.view_is c.args.key c.index-description.result.now c.index-description.ensures s c.index_mut-shared.ensures.value s.object refl)

pub invariant_of-self-2 : goal.invariant_of-self-2
invariant_of-self-2 g c =
    let k = c.self.inside in
    let s = c.index_mut-shared.result.now in
    let at = c.index-description.result.now.object in
    let is = c.index_mut-shared.ensures.value in
    let y = c.apply_naming.new.self in
    record {
      descriptions = c.self.invariant.descriptions;
      objects = numbered_same k.descriptions.slots k.objects.slots k.made at s is c.self.invariant.objects y;
      backed = backed_same k.descriptions.slots k.objects.slots k.made at s is c.self.invariant.objects y c.self.invariant.backed;
      owned = owned_same k.descriptions.slots k.objects.slots k.made at s is c.self.invariant.objects y c.self.invariant.owned;
      counted = c.self.invariant.counted;
      room = c.self.invariant.room;
      queue = c.self.invariant.queue;
      keyed = c.self.invariant.keyed;
      fewer = c.self.invariant.fewer;
      taken = subst (λ (xs : List (Option Object)). Taking c.take_gained.new.taken xs) (sym (objects_same k.descriptions.slots k.objects.slots k.made at s is c.self.invariant.objects y)) (taking_after g c);
      owners = owners_named k.taken.value c.take_gained.new.taken k.objects.slots c.self.invariant.owners at s is (record s { object = y }) c.gains.result (gained g c) (gained_owners g c);
      instances = instances_follow k.descriptions.slots k.objects.slots (slice_set k.objects.slots at (Some (record s { object = y }))) (follow g c) c.self.invariant.instances;
      connected = all_stand k.waiting k.objects.slots (slice_set k.objects.slots at (Some (record s { object = y }))) k.made (follow g c) c.self.invariant.connected;
      loss_room = c.self.invariant.loss_room;
    }

effect : (g : Over) (c : goal.After-self-2-1 g) (now : ℕ) → (c.apply_naming.result.0, c.apply_naming.new.self, c.apply_naming.result.1) ≡ effect_at (files_in c.args.self.now) (thing_number c.args.self.now c.args.key) now c.args.call.now
effect g c now =
    c.apply_naming.ensures c.index-description.result.now.end now
    ∙ effect_is c.self.inside c.args.self.now c.self.invariant c.self.view_is c.args.key c.index-description.result.now c.index-description.ensures c.index_mut-shared.result.now c.index_mut-shared.ensures.value now c.args.call.now

pub returns-clause-answer : goal.returns-clause-answer
returns-clause-answer g c = λ now. ap (λ (f : Effect Object). f.0) (effect g c now)

pub returns-clause-raised : goal.returns-clause-raised
returns-clause-raised g c = λ now. ap (λ (f : Effect Object). f.2) (effect g c now)

pub returns-clause-objects : goal.returns-clause-objects
returns-clause-objects g c = λ now.
    let v = c.args.self.now in
    let t = things_applied c.self.inside v c.self.invariant c.self.view_is c.args.key c.index-description.result.now c.index-description.ensures c.index_mut-shared.result.now c.index_mut-shared.ensures.value c.apply_naming.new.self in
    t ∙ ap (λ (f : Effect Object). record v { objects = slice_set v.objects (object_number (place_of (files_in v) (thing_number v c.args.key))) (Some f.1) }) (effect g c now)

pub returns-in_err-take_gained-clause-last : goal.returns-in_err-take_gained-clause-last
returns-in_err-take_gained-clause-last g c =
    let v = c.args.self.now in
    let d = c.index-description.result.now in
    let s = c.index_mut-shared.result.now in
    let o = object_found c.self.inside v c.self.invariant c.self.view_is c.args.key d c.index-description.ensures s c.index_mut-shared.ensures.value in
    let e = side_is c.self.inside v c.self.invariant c.self.view_is c.args.key d c.index-description.ensures in
    let call = c.args.call.now in
    on_err c.from_residual.result _ (λ now.
    let there : object_refusals s.object d.end now call ≡ refusals_at (files_in v) (thing_number v c.args.key) now call = λ i. object_refusals (ap unwrapped o i) (sym e i) now call in
    subst (λ (rows : List (Bool × Errno)). first rows ≡ None) there
    (named_is_last s.object d.end now call c.gains.result (c.gains.ensures.gains d.end now) (λ h. false≢true (c.in_err-take_gained.ensures.none h))))

pub returns-in_err-take_gained-clause-inline : goal.returns-in_err-take_gained-clause-inline
returns-in_err-take_gained-clause-inline g c = λ h. absurd (false≢true (c.in_err-take_gained.ensures.none (none_gained c.args.call.now c.gains.result c.gains.ensures.found h)))
