use Rattle.std.proofs.Common.{None, Some, sym}
use Rattle.std.proofs.lemmas.List.{get_or_read}
use Rattle.ep_rings.specs.Circles.{Joins}
use Rattle.ep_rings.proofs.PlacedLemmas.{can_join, key_joined, owner_below, sound_joined, whose}
use Rattle.ep_rings.proofs.placed_rows.PlacedRows.push.Given.{Over}
use Rattle.ep_rings.proofs.placed_rows.PlacedRows.push.Goals as goal

pub push-longer-requires-clause-joins : goal.push-longer-requires-clause-joins
push-longer-requires-clause-joins g c =
    let h = c.self.inside.heads.items in let s = c.self.inside.circles in let o = c.args.owner.0 in
    let lt = owner_below h s c.args.self.now o c.self.view_is c.requires.owner in
    (whose h s o, can_join h s c.self.invariant o c.args.id.0 c.args.self.now c.self.view_is c.requires.fresh, sym (get_or_read h o c.index-circle.result.now lt c.index-circle.ensures None))

joined : (g : Over) (c : goal.After-self-1 g) → Joins c.self.inside.circles c.push-longer.new.self (whose c.self.inside.heads.items c.self.inside.circles c.args.owner.0) (Some c.push-longer.result) c.args.id.0
joined g c =
    let h = c.self.inside.heads.items in let s = c.self.inside.circles in let o = c.args.owner.0 in
    let lt = owner_below h s c.args.self.now o c.self.view_is c.requires.owner in
    c.push-longer.ensures.joins (whose h s o) (can_join h s c.self.invariant o c.args.id.0 c.args.self.now c.self.view_is c.requires.fresh) (sym (get_or_read h o c.index-circle.result.now lt c.index-circle.ensures None))

pub invariant_of-self : goal.invariant_of-self
invariant_of-self g c =
    let h = c.self.inside.heads.items in let s = c.self.inside.circles in let o = c.args.owner.0 in
    let lt = owner_below h s c.args.self.now o c.self.view_is c.requires.owner in
    sound_joined h s c.self.invariant o c.args.id.0 c.push-longer.new.self (Some c.push-longer.result) lt (joined g c)

pub returns : goal.returns
returns g c =
    let h = c.self.inside.heads.items in let s = c.self.inside.circles in let o = c.args.owner.0 in
    let lt = owner_below h s c.args.self.now o c.self.view_is c.requires.owner in
    key_joined h s c.self.invariant o c.args.id.0 c.args.self.now c.self.view_is c.push-longer.new.self (Some c.push-longer.result) lt (joined g c)
