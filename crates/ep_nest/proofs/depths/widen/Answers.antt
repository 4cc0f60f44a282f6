use Rattle.std.proofs.Common.{ap, append_assoc, replicate, ◌+◌, ◌++◌, ◌∙◌, ◌∷◌, []}
use Rattle.std.proofs.lemmas.List.{replicate_more}
use Rattle.ep_nest.proofs.depths.widen.Goals as goal

pub loop-depths-preserved : goal.loop-depths-preserved
loop-depths-preserved g c =
    let before = c.loop-depths.invariant in
    let first = c.args.depths.now.items in
    (before.0 + 1, c.in_ok-push.ensures.items ∙ (ap (λ xs. xs ++ 0 ∷ []) before.1 ∙ (append_assoc first (replicate before.0 0) (0 ∷ []) ∙ ap (λ xs. first ++ xs) (replicate_more before.0 0))))
