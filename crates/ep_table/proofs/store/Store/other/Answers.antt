use Rattle.std.proofs.Common.{Option, ap, subst, sym, ◌∙◌, ◌≡◌}
use Rattle.ep_machine.specs.Files.{Place}
use Rattle.ep_table.specs.Closing.{IsAt, across, other_key}
use Rattle.ep_table.specs.Value.{Things, files_in}
use Rattle.ep_table.specs.declared.words.Shared.{Shared}
use Rattle.ep_table.proofs.OtherLemmas.{other_at}
use Rattle.ep_table.proofs.StoreLemmas.{backs, object_there, place_is}
use Rattle.ep_table.proofs.store.Store.other.Goals as goal

pub index-requires : goal.index-requires
index-requires g c = object_there c.self.inside c.args.self.now c.self.invariant c.self.view_is c.args.key c.index-description.result.now c.index-description.ensures

pub returns : goal.returns
returns g c =
    let k = c.self.inside in
    let v = c.args.self.now in
    let i = c.self.invariant in
    let d = c.index-description.result.now in
    let is = c.index-description.ensures in
    let b = backs k v i c.self.view_is c.args.key d is in
    let e : c.index.result.now ≡ b.it = (let x = b.is in let y = c.index.ensures in cc) in
    let r = other_at k.descriptions.slots k.objects.slots k.described k.made i.descriptions i.objects i.backed i.owned c.args.key d is (files_in v) v.keys c.other_in.result (ap (λ (w : Things). w.descriptions) c.self.view_is) (ap (λ (w : Things). w.keys) c.self.view_is) (c.other_in.ensures ∙ ap (λ (s : Shared). other_key s d.end) e) in
    subst (λ (o : Option Place). IsAt (files_in v) v.keys (across o) c.other_in.result) (sym (place_is k v i c.self.view_is c.args.key d is)) r
