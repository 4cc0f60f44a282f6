use Rattle.std.proofs.Common.{◌≡◌, ◌++◌, ◌-◌, List, None, Option, ap, arith, replicate, take, vec_len, ◌∙◌}
use Rattle.std.proofs.lemmas.List.{take_all}
use Rattle.ep_rings.specs.PlacedRows.{head_at}
use Rattle.ep_rings.specs.declared.circle.Circle.{Circle}
use Rattle.ep_rings.proofs.OwnerLemmas.{read_more}
use Rattle.ep_rings.proofs.placed_rows.add_heads.Goals as goal

pub returns-in_ok-resize-clause-kept : goal.returns-in_ok-resize-clause-kept
returns-in_ok-resize-clause-kept g c i =
    let v = c.args.heads.now in
    let n = c.args.owners - vec_len v in
    let all : take c.args.owners v.items ≡ v.items = take_all c.args.owners v.items (omega (arith, v.ok.0, c.len.ensures, c.if-len-owners.true)) in
    let new = ap (λ (xs : List (Option Circle)). head_at (xs ++ replicate n None) i) all in
    ap (λ (xs : List (Option Circle)). head_at xs i) c.in_ok-resize.ensures.items ∙ (new ∙ read_more v.items n i None)
