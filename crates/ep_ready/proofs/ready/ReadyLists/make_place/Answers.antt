use Rattle.std.proofs.Common.{false, arith, refl, rules, set, subst}
use Rattle.ep_rings.specs.PlacedRows.{KeepsRows}
use Rattle.ep_ready.specs.ReadyLists.{GainsPlace, Lists, Same}
use Rattle.ep_ready.specs.Tied.{value_of}
use Rattle.ep_ready.proofs.TiedLemmas.{made, placed, same_lists}
use Rattle.ep_ready.proofs.ready.ReadyLists.make_place.Goals as goal

pub returns-in_err-add_keys-clause-refused : goal.returns-in_err-add_keys-clause-refused
returns-in_err-add_keys-clause-refused g c =
    let v = c.self.inside.rows in let ps1 = c.add_keys.new.places.items in
    let kept : KeepsRows v v = record { rows = λ i. refl; owners = omega arith; keys = omega arith } in
    let same = subst (λ (l : Lists). Same l (value_of v ps1)) c.self.view_is (same_lists v v c.self.inside.places.items ps1 kept c.add_keys.ensures.same) in
    search (rules, same)

pub returns-in_err-reserve-clause-refused : goal.returns-in_err-reserve-clause-refused
returns-in_err-reserve-clause-refused g c =
    let v = c.self.inside.rows in let v' = c.reserve.new.self in let ps1 = c.add_keys.new.places.items in
    let same = subst (λ (l : Lists). Same l (value_of v' ps1)) c.self.view_is (same_lists v v' c.self.inside.places.items ps1 c.reserve.ensures.kept c.add_keys.ensures.same) in
    search (rules, same)

pub returns-clause-made : goal.returns-clause-made
returns-clause-made g c =
    let v = c.self.inside.rows in let v' = c.reserve.new.self in let ps = c.self.inside.places.items in let ps1 = c.add_keys.new.places.items in
    let e = c.args.entry.0 in let i = c.args.instance in
    subst (λ (l : Lists). GainsPlace l (value_of v' (set ps1 e (placed i false))) i.0 c.args.entry) c.self.view_is
    (made v v' ps ps1 c.reserve.ensures.kept c.add_keys.ensures.same i e (search rules))
