use Rattle.std.proofs.Common.{List, None, Option, ap, arith, drop, get_or, map, slice_set, suc, sym, take, ℕ, ◌++◌, ◌+◌, ◌∙◌, ◌≡◌}
use Rattle.ep_table.specs.Flagged.{kept}
use Rattle.ep_table.specs.declared.words.Descriptor.{Descriptor}
use Rattle.ep_table.proofs.PutLemmas.{kept_next}
use Rattle.ep_table.proofs.table.free_flagged.Goals as goal

pub loop-number-preserved : goal.loop-number-preserved
loop-number-preserved c =
    let t = c.args.slots.now in
    let n = c.loop-number.number in
    let was = c.loop-number.invariant in
    let next : n + 1 ≡ suc n = omega arith in
    ap (λ (o : Option Descriptor). slice_set c.loop-number.slots n o) c.left_by_exec.ensures
    ∙ (ap (λ (r : List (Option Descriptor)). slice_set r n (kept (get_or r n None))) was
    ∙ (kept_next t n (omega (arith, c.loop-number-test.true))
    ∙ ap (λ (i : ℕ). map kept (take i t) ++ drop i t) (sym next)))
