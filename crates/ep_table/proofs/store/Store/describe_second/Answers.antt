use Rattle.std.proofs.Common.{List, Option, Some, ap, arith, count_by, is_some, length, slice_set, sym, unwrap_or, ◌+◌, ◌∙◌, ◌≡◌}
use Rattle.std.proofs.lemmas.Bool.{false≢true}
use Rattle.slab.specs.Slab.{slab_len, with_value}
use Rattle.ep_base.specs.declared.ids.DescId.{DescId}
use Rattle.ep_machine.specs.Connections.{accepted}
use Rattle.ep_base.specs.declared.object.End.TheVariants.{Second}
use Rattle.ep_machine.specs.Objects.{Object, is_waiting}
use Rattle.ep_table.proofs.DescribeLemmas.{describes, store_describes}
use Rattle.ep_table.proofs.InsertLemmas.{Inserted, inserted}
use Rattle.ep_table.proofs.LetGoLemmas.{at}
use Rattle.ep_table.proofs.LettingLemmas.{none_waits, one_fewer}
use Rattle.ep_table.specs.Value.{Things}
use Rattle.ep_table.specs.declared.words.Description.{Description}
use Rattle.ep_table.specs.declared.words.Loss.{Loss}
use Rattle.ep_table.specs.declared.words.Shared.{Shared}
use Rattle.ep_table.proofs.store.Store.describe_second.Given.{Over}
use Rattle.ep_table.proofs.store.Store.describe_second.Goals as goal

pub unreachable-requires : goal.unreachable-requires
unreachable-requires g c =
    let k = c.self.inside in
    let rests = none_waits k.waiting k.objects.slots k.made c.self.invariant.objects c.self.invariant.connected c.args.number c.in_default.ensures.none in
    false≢true (sym rests ∙ (ap (λ (v : Things). is_waiting (at v.objects c.args.number)) c.self.view_is ∙ c.requires))

-- the description more
more : (g : Over) (c : goal.After-clear g) → Inserted c.self.inside.descriptions.slots c.insert_reserved-key.new.self.slots c.insert_reserved-key.result (record { number = c.self.inside.described; object_number = c.args.number; object = c.in-Some.at; end = Second; names = 1; holds = 0 })
more g c = inserted c.self.inside.descriptions.slots c.reserve_described.new.descriptions c.insert_reserved-key.new.self c.insert_reserved-key.result _ c.reserve_described.ensures.descriptions c.insert_reserved-key.ensures.was_vacant c.insert_reserved-key.ensures.updates

-- what is written in place of the object
written : (s x : Shared) (y : Object) (f : Object → Object) → Some x ≡ Some s → y ≡ f x.object → (key : Option DescId) → record { number = x.number; object = y; first = x.first; second = key } ≡ record s { object = f s.object; second = key }
written s x y f e h key =
    let same : x ≡ s = ap (λ (o : Option Shared). unwrap_or o x) e in
    (λ i. record { number = x.number; object = h i; first = x.first; second = key }) ∙ (λ i. record (same i) { object = f (same i).object; second = key })

pub invariant_of-self-2 : goal.invariant_of-self-2
invariant_of-self-2 g c =
    let k = c.self.inside in
    let w = c.in-Some.ensures.waits in
    let slots = ap (λ (x : Shared). slice_set k.objects.slots c.in-Some.at (Some x)) (written w.it c.index_mut-shared.result.now c.accept.new.self accepted (sym c.index_mut-shared.ensures.value ∙ w.is) c.accept.ensures (Some (record { 0 = c.insert_reserved-key.result }))) in
    let fewer = one_fewer _ c.in-Some.at _ _ c.in-Some.ensures.kept c.remove.ensures.fewer in
    let len : slab_len c.insert_reserved-key.new.self ≡ slab_len k.descriptions + 1 = c.insert_reserved-key.ensures.len ∙ ap (λ (xs : List (Option Description)). count_by is_some xs + 1) c.reserve_described.ensures.descriptions in
    store_describes k c.args.self.now c.self.invariant c.self.view_is c.in-Some.at c.args.number c.in-Some.ensures.waits c.insert_reserved-key.result c.insert_reserved-key.new.self (more g c)
    (with_value k.objects c.in-Some.at (record { number = c.index_mut-shared.result.now.number; object = c.accept.new.self; first = c.index_mut-shared.result.now.first; second = Some (record { 0 = c.insert_reserved-key.result }) }))
    c.reserve_described.new.dying c.remove.new.self c.clear.new.self slots c.reserve_described.ensures.dying c.remove.ensures.left
    len (omega (arith, c.in_ok-reserve_described.ensures.death_room, c.insert_reserved-key.ensures.len)) (omega (arith, c.self.invariant.loss_room, fewer, c.clear.ensures.capacity, ap (λ (xs : List Loss). length xs) c.clear.ensures.items))

pub returns-clause-ok : goal.returns-clause-ok
returns-clause-ok g c =
    let k = c.self.inside in
    let w = c.in-Some.ensures.waits in
    let slots = ap (λ (x : Shared). slice_set k.objects.slots c.in-Some.at (Some x)) (written w.it c.index_mut-shared.result.now c.accept.new.self accepted (sym c.index_mut-shared.ensures.value ∙ w.is) c.accept.ensures (Some (record { 0 = c.insert_reserved-key.result }))) in
    describes k c.args.self.now c.self.invariant c.self.view_is c.in-Some.at c.args.number c.in-Some.ensures.waits c.insert_reserved-key.result c.insert_reserved-key.new.self (more g c)
    (with_value k.objects c.in-Some.at (record { number = c.index_mut-shared.result.now.number; object = c.accept.new.self; first = c.index_mut-shared.result.now.first; second = Some (record { 0 = c.insert_reserved-key.result }) }))
    c.reserve_described.new.dying c.remove.new.self c.clear.new.self slots c.reserve_described.ensures.dying c.remove.ensures.left c.clear.ensures.items
