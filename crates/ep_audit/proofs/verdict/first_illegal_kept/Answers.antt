use Rattle.std.proofs.Common.{◌≡◌, ◌∙◌, Some, slice_get, sym}
use Rattle.std.proofs.lemmas.Option.{get_or_from_slice_get, slice_get_within}
use Rattle.ep_audit.proofs.AuditorLemmas.{goes_on, goes_wrong}
use Rattle.ep_audit.proofs.verdict.first_illegal_kept.Goals as goal

pub returns-then-not-branch : goal.returns-then-not-branch
returns-then-not-branch c = λ limits new.
    let had = c.loop-index.invariant limits new in
    let records = c.args.history.now.items in
    let entry = c.in-Some.entry in
    let here : slice_get records c.loop-index.index ≡ Some entry = sym c.get.ensures ∙ c.in-Some.is in
    goes_wrong limits records _ _ _ _ _ (slice_get_within records c.loop-index.index entry here) (sym (get_or_from_slice_get records c.loop-index.index entry entry here))
    c.if-not-branch.true had (c.in_ok-allows_entry.ensures limits _ had)

pub loop-index-preserved : goal.loop-index-preserved
loop-index-preserved c = λ limits new.
    let had = c.loop-index.invariant limits new in
    let records = c.args.history.now.items in
    let entry = c.in-Some.entry in
    let here : slice_get records c.loop-index.index ≡ Some entry = sym c.get.ensures ∙ c.in-Some.is in
    goes_on limits records _ _ _ _ (slice_get_within records c.loop-index.index entry here) (sym (get_or_from_slice_get records c.loop-index.index entry entry here))
    c.if-not-branch.false (c.in_ok-allows_entry.ensures limits _ had)
