use Rattle.std.proofs.Common.{◌≡◌, ◌∙◌, ap, false, rules, set, subst, sym}
use Rattle.ep_rings.specs.PlacedRows.{PlacedRows}
use Rattle.ep_ready.specs.ReadyLists.{Lists, after_removal}
use Rattle.ep_ready.specs.Tied.{IsTied, value_of}
use Rattle.ep_ready.proofs.TiedLemmas.{none_removed, placed, found, removed, tied_left}
use Rattle.ep_ready.proofs.ready.ReadyLists.remove.Goals as goal

pub returns-then-not-place : goal.returns-then-not-place
returns-then-not-place g c =
    let v = c.self.inside.rows in let ps = c.self.inside.places.items in
    let f = found v ps c.args.self.now c.args.entry c.index.result.now c.in-Some.place c.self.view_is c.requires.place c.index.ensures c.in-Some.is in
    subst (λ (l : Lists). l ≡ after_removal l c.args.entry) c.self.view_is
    (none_removed v ps c.self.invariant c.args.entry.0 c.in-Some.place f (search (rules, c.if-not-place.true)))

pub invariant_of-self : goal.invariant_of-self
invariant_of-self g c =
    let v = c.self.inside.rows in let ps = c.self.inside.places.items in let e = c.args.entry.0 in let p = c.in-Some.place in
    let f = found v ps c.args.self.now c.args.entry c.index.result.now c.in-Some.place c.self.view_is c.requires.place c.index.ensures c.in-Some.is in
    subst (λ (u : PlacedRows). IsTied u (set ps e (placed p.instance false))) (sym c.remove.ensures) (tied_left v ps c.self.invariant e p f)

pub returns : goal.returns
returns g c =
    let v = c.self.inside.rows in let ps = c.self.inside.places.items in let e = c.args.entry.0 in let p = c.in-Some.place in
    let f = found v ps c.args.self.now c.args.entry c.index.result.now c.in-Some.place c.self.view_is c.requires.place c.index.ensures c.in-Some.is in
    ap (λ (u : PlacedRows). value_of u (set ps e (placed p.instance false))) c.remove.ensures
    ∙ (removed v ps c.self.invariant e p f ∙ ap (λ (l : Lists). after_removal l c.args.entry) c.self.view_is)
