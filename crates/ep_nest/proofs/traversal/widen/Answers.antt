use Rattle.std.proofs.Common.{ap, append_assoc, arith, false, length, replicate, ◌+◌, ◌++◌, ◌∙◌, ◌∷◌, []}
use Rattle.std.proofs.lemmas.List.{length_push, replicate_more}
use Rattle.ep_nest.proofs.traversal.widen.Goals as goal

pub loop-marks-preserved : goal.loop-marks-preserved
loop-marks-preserved g c =
    let before = c.loop-marks.invariant.grown in
    let first = c.args.marks.now.items in
    let old = c.loop-marks.marks in
    let long = ap (λ xs. length xs) c.in_ok-push.ensures.items ∙ length_push old.items false in
    record {
      grown = (before.0 + 1, c.in_ok-push.ensures.items ∙ (ap (λ xs. xs ++ false ∷ []) before.1 ∙ (append_assoc first (replicate before.0 false) (false ∷ []) ∙ ap (λ xs. first ++ xs) (replicate_more before.0 false))));
      few = λ n lt le. omega (arith, long, old.ok.0, c.loop-marks-test.true, c.len.ensures, lt);
    }
