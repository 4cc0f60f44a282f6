use Rattle.std.proofs.Common.{◌∙◌, None, sym}
use Rattle.std.proofs.lemmas.List.{get_or_read}
use Rattle.ep_rings.specs.Circles.{Leaves}
use Rattle.ep_rings.proofs.PlacedLemmas.{can_leave, key_left, owner_there, sound_left, whose}
use Rattle.ep_rings.proofs.placed_rows.PlacedRows.remove.Given.{Over}
use Rattle.ep_rings.proofs.placed_rows.PlacedRows.remove.Goals as goal

pub remove-requires : goal.remove-requires
remove-requires g c =
    let h = c.self.inside.heads.items in let s = c.self.inside.circles in let o = c.args.owner.0 in
    let lt = owner_there h s c.args.self.now o c.args.id.0 c.self.view_is c.requires in
    (whose h s o, can_leave h s c.self.invariant o c.args.id.0 c.args.self.now c.self.view_is c.requires, sym (get_or_read h o c.index.result.now lt c.index.ensures None) ∙ c.in-Some.is)

left : (g : Over) (c : goal.After-self-1 g) → Leaves c.self.inside.circles c.remove.new.self (whose c.self.inside.heads.items c.self.inside.circles c.args.owner.0) c.remove.result c.args.id.0
left g c =
    let h = c.self.inside.heads.items in let s = c.self.inside.circles in let o = c.args.owner.0 in
    let lt = owner_there h s c.args.self.now o c.args.id.0 c.self.view_is c.requires in
    c.remove.ensures (whose h s o) (can_leave h s c.self.invariant o c.args.id.0 c.args.self.now c.self.view_is c.requires) (sym (get_or_read h o c.index.result.now lt c.index.ensures None) ∙ c.in-Some.is)

pub invariant_of-self : goal.invariant_of-self
invariant_of-self g c =
    let h = c.self.inside.heads.items in let s = c.self.inside.circles in let o = c.args.owner.0 in
    let lt = owner_there h s c.args.self.now o c.args.id.0 c.self.view_is c.requires in
    sound_left h s c.self.invariant o c.args.id.0 c.remove.new.self c.remove.result lt (left g c)

pub returns-in-Some : goal.returns-in-Some
returns-in-Some g c =
    let h = c.self.inside.heads.items in let s = c.self.inside.circles in let o = c.args.owner.0 in
    let lt = owner_there h s c.args.self.now o c.args.id.0 c.self.view_is c.requires in
    key_left h s c.self.invariant o c.args.id.0 c.args.self.now c.self.view_is c.requires c.remove.new.self c.remove.result lt (left g c)
