use Rattle.std.proofs.Common.{◌≡◌, length, drop, arith, ap, sym, ◌∙◌, [], length-drop}
use Rattle.std.proofs.lemmas.List.{drop_all}
use Rattle.std.proofs.lemmas.Bool.{eqb-true, eq-eqb}
use Rattle.ep_shared.specs.Parts.{part}
use Rattle.ep_shared.proofs.book.laws.is_part.Goals as goal

pub returns : goal.returns
returns c =
    let rs = c.args.records.now in let k = c.loop-r.k in
    let inv = c.loop-r.invariant in
    let none : part c.args.caller c.loop-r.r-iterator ≡ [] = ap (part c.args.caller) c.in-None.ensures.steps.0 in (
      (λ e. let same : k ≡ length rs = eqb-true k (length rs) e in inv.1.0 (none ∙ sym (drop_all k rs (omega arith)))),
      λ p. let q = inv.1.1 p in let zero : drop k rs ≡ [] = sym q ∙ none in eq-eqb k (length rs) (omega (arith, length-drop k rs, ap length zero, inv.0)),
    )
