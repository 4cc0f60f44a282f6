use Rattle.std.proofs.Common.{◌≡◌, ◌∙◌, [], ◌∷◌, List, arith, nat_lt, subst, take, take_all, true, ℕ}
use Rattle.std.proofs.lemmas.List.{get_or_default}
use Rattle.std.proofs.lemmas.Bool.Decides.{nat_tests}
use Rattle.ep_dates.proofs.RenewLemmas.{renews_more, renews_none}
use Rattle.ep_dates.specs.Renew.{Renews}
use Rattle.ep_dates.proofs.renew.renew_each.Goals as goal

pub loop-number-init : goal.loop-number-init
loop-number-init c = renews_none c.args.event c.args.parts.now.interest c.args.dates.now c.requires.kept

pub renew-requires-clause-kept : goal.renew-requires-clause-kept
renew-requires-clause-kept c = c.loop-number.invariant.kept

pub loop-number-preserved : goal.loop-number-preserved
loop-number-preserved c =
    let up : nat_lt 0 c.args.event ≡ true = let positive = c.requires.event in grind (arith, nat_tests, positive) in
    let it = c.number-item.is ∙ get_or_default c.args.reported.now c.loop-number.number-index c.number-item.result 0 c.loop-number-test.true in
    renews_more c.args.event c.args.parts.now.interest c.args.reported.now c.loop-number.number-index c.args.dates.now c.loop-number.dates c.renew.new.dates up c.loop-number-test.true c.loop-number.invariant
    (subst (λ (k : ℕ). Renews c.args.event c.args.parts.now.interest (k ∷ []) c.loop-number.dates c.renew.new.dates) it c.renew.ensures)

pub returns : goal.returns
returns c =
    let all = c.args.reported.now in
    let whole : take c.loop-number.number-index all ≡ all = take_all c.loop-number.number-index all (omega (arith, c.loop-number-test.false)) in
    subst (λ (l : List ℕ). Renews c.args.event c.args.parts.now.interest l c.args.dates.now c.loop-number.dates) whole c.loop-number.invariant
