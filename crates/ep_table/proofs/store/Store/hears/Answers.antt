use Rattle.std.proofs.Common.{ap, sym, Option, Some, true, ◌∙◌, ◌≡◌}
use Rattle.ep_machine.specs.Objects.{has_name, hearing_in}
use Rattle.ep_names.specs.Names.{Taken, owner_of}
use Rattle.ep_table.proofs.ByNumberLemmas.{content_there}
use Rattle.ep_table.proofs.OwnersLemmas.{owner_there}
use Rattle.ep_table.proofs.TakingLemmas.{nobody_listens, owner_hears}
use Rattle.ep_table.specs.Stored.{object_in, object_number_in, objects}
use Rattle.ep_table.specs.Taking.{object_slot}
use Rattle.ep_table.specs.Value.{Things}
use Rattle.ep_table.specs.declared.words.Shared.{Shared}
use Rattle.ep_table.proofs.store.Store.hears.Goals as goal

pub index-requires : goal.index-requires
index-requires g c = owner_there c.self.inside.taken.value c.self.inside.objects.slots c.self.invariant.owners c.args.name c.in-Some.at (ap (λ (t : Taken). owner_of t c.args.name) (sym c.deref.ensures) ∙ (sym c.owner.ensures ∙ c.in-Some.is))

pub returns-in-Some : goal.returns-in-Some
returns-in-Some g c =
    let k = c.self.inside in
    let s = c.index.result.now in
    let owned : owner_of k.taken.value c.args.name ≡ Some c.in-Some.at =
    ap (λ (t : Taken). owner_of t c.args.name) (sym c.deref.ensures) ∙ (sym c.owner.ensures ∙ c.in-Some.is) in
    let has : has_name c.args.name (Some s.object) ≡ true =
    ap (λ (o : Option Shared). has_name c.args.name (object_slot o)) (sym c.index.ensures) ∙ c.self.invariant.owners c.args.name c.in-Some.at owned in
    let there = content_there object_number_in object_in k.objects.slots k.made c.self.invariant.objects c.in-Some.at s c.index.ensures in
    c.hearing.ensures
    ∙ (owner_hears c.args.name k.taken.value (objects k.objects.slots k.made) c.self.invariant.taken s.number s.object there has
    ∙ ap (λ (v : Things). hearing_in v.objects c.args.name) c.self.view_is)

pub returns-in-None : goal.returns-in-None
returns-in-None g c =
    let k = c.self.inside in
    nobody_listens c.args.name k.taken.value (objects k.objects.slots k.made) c.self.invariant.taken (ap (λ (t : Taken). owner_of t c.args.name) (sym c.deref.ensures) ∙ (sym c.owner.ensures ∙ c.in-None.is))
    ∙ ap (λ (v : Things). hearing_in v.objects c.args.name) c.self.view_is
