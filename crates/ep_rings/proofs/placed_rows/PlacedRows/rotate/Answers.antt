use Rattle.std.proofs.Common.{◌≡◌, ◌∙◌, Some, set, subst, sym}
use Rattle.ep_rings.specs.Circles.{AreCircles}
use Rattle.ep_rings.specs.PlacedRows.{head_at, rows_from, with_turn}
use Rattle.ep_rings.specs.declared.circle.Circle.{Circle}
use Rattle.ep_rings.proofs.PlacedLemmas.{first_linked, row_turned, sound_turned}
use Rattle.ep_rings.proofs.placed_rows.PlacedRows.rotate.Goals as goal

pub turned-requires : goal.turned-requires
turned-requires g c =
    let h = c.self.inside.heads.items in let s = c.self.inside.circles in let o = c.args.owner.0 in
    first_linked h s c.self.invariant o c.in-Some.circle (sym c.head_in.ensures ∙ c.in-Some.is)

pub invariant_of-self : goal.invariant_of-self
invariant_of-self g c =
    let h = c.self.inside.heads.items in let s = c.self.inside.circles in let o = c.args.owner.0 in
    subst (λ (t : Circle). AreCircles s (head_at (set h o (Some t)))) (sym c.turned.ensures)
    (sound_turned h s c.self.invariant o c.in-Some.circle (sym c.head_in.ensures ∙ c.in-Some.is))

pub returns-in-Some : goal.returns-in-Some
returns-in-Some g c =
    let h = c.self.inside.heads.items in let s = c.self.inside.circles in let o = c.args.owner.0 in
    subst (λ (t : Circle). rows_from (set h o (Some t)) s ≡ with_turn c.args.self.now o) (sym c.turned.ensures)
    (row_turned h s c.self.invariant o c.in-Some.circle (sym c.head_in.ensures ∙ c.in-Some.is) c.args.self.now c.self.view_is)
