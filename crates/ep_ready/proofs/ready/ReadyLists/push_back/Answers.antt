use Rattle.std.proofs.Common.{◌∙◌, ap, set, subst, sym, true}
use Rattle.ep_rings.specs.PlacedRows.{PlacedRows}
use Rattle.ep_ready.specs.ReadyLists.{Lists, after_push}
use Rattle.ep_ready.specs.Tied.{IsTied, value_of}
use Rattle.ep_ready.proofs.TiedLemmas.{key_there, placed, pushed, found, row_there, tied_pushed}
use Rattle.ep_ready.proofs.ready.ReadyLists.push_back.Goals as goal

pub push-requires-clause-owner : goal.push-requires-clause-owner
push-requires-clause-owner g c =
    let v = c.self.inside.rows in let ps = c.self.inside.places.items in
    let f = found v ps c.args.self.now c.args.entry c.index.result.now c.in-Some.place c.self.view_is c.requires.place c.index.ensures c.in-Some.is in
    row_there v ps c.self.invariant c.args.entry.0 c.in-Some.place f

pub push-requires-clause-key : goal.push-requires-clause-key
push-requires-clause-key g c =
    let v = c.self.inside.rows in let ps = c.self.inside.places.items in
    let f = found v ps c.args.self.now c.args.entry c.index.result.now c.in-Some.place c.self.view_is c.requires.place c.index.ensures c.in-Some.is in
    key_there v ps c.self.invariant c.args.entry.0 c.in-Some.place f

pub invariant_of-self : goal.invariant_of-self
invariant_of-self g c =
    let v = c.self.inside.rows in let ps = c.self.inside.places.items in let e = c.args.entry.0 in let p = c.in-Some.place in
    let f = found v ps c.args.self.now c.args.entry c.index.result.now c.in-Some.place c.self.view_is c.requires.place c.index.ensures c.in-Some.is in
    subst (λ (u : PlacedRows). IsTied u (set ps e (placed p.instance true))) (sym c.push.ensures) (tied_pushed v ps c.self.invariant e p f)

pub returns : goal.returns
returns g c =
    let v = c.self.inside.rows in let ps = c.self.inside.places.items in let e = c.args.entry.0 in let p = c.in-Some.place in
    let f = found v ps c.args.self.now c.args.entry c.index.result.now c.in-Some.place c.self.view_is c.requires.place c.index.ensures c.in-Some.is in
    ap (λ (u : PlacedRows). value_of u (set ps e (placed p.instance true))) c.push.ensures
    ∙ (pushed v ps c.self.invariant e p f c.if-place.false ∙ ap (λ (l : Lists). after_push l c.args.entry) c.self.view_is)
