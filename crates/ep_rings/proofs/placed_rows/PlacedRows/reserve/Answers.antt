use Rattle.std.proofs.Common.{arith, refl, subst}
use Rattle.ep_rings.specs.PlacedRows.{KeepsRows, PlacedRows, head_at, rows_from}
use Rattle.ep_rings.proofs.PlacedLemmas.{rows_kept}
use Rattle.ep_rings.proofs.placed_rows.PlacedRows.reserve.Goals as goal

-- no memory for owners
pub returns-in_err-add_heads-clause-kept : goal.returns-in_err-add_heads-clause-kept
returns-in_err-add_heads-clause-kept g c =
    let h = c.self.inside.heads.items in let h' = c.add_heads.new.heads.items in let s = c.self.inside.circles in
    subst (λ (v : PlacedRows). KeepsRows v (rows_from h' s)) c.self.view_is (rows_kept h h' s s c.add_heads.ensures.kept c.add_heads.ensures.more (λ i. refl) (omega arith))

pub returns-clause-kept : goal.returns-clause-kept
returns-clause-kept g c =
    let h = c.self.inside.heads.items in let h' = c.add_heads.new.heads.items in let s = c.self.inside.circles in
    subst (λ (v : PlacedRows). KeepsRows v (rows_from h' c.reserve.new.self)) c.self.view_is (rows_kept h h' s c.reserve.new.self c.add_heads.ensures.kept c.add_heads.ensures.more (c.reserve.ensures.kept (head_at h)) c.reserve.ensures.more)
