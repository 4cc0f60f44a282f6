use Rattle.std.proofs.Common.{◌≡◌, ◌==◌, ◌+◌, ◌∷◌, ◌∙◌, ap, arith, drop, rules, suc, sym, take}
use Rattle.std.proofs.lemmas.List.{take_rest}
use Rattle.ep_scenario.specs.Lines.{lines_of}
use Rattle.ep_scenario.proofs.CutLemmas.{cut_at, cut_none}
use Rattle.ep_scenario.proofs.cut.first_line.Goals as goal

pub returns-in-Some : goal.returns-in-Some
returns-in-Some c =
    let first = c.in-Some.ensures.0 in
    let xs = c.args.text.now in
    let n = c.in-Some.place in
    let e : suc n ≡ n + 1 = omega arith in
    cut_at xs n (omega (arith, first.high)) (search rules) (λ k less is. first.before k (omega arith) less (ap (λ x. x == 10) is))
    ∙ ap (λ ys. take n xs ∷ lines_of ys) (ap (λ m. drop m xs) e ∙ sym (take_rest xs (n + 1)))

pub returns-in-None : goal.returns-in-None
returns-in-None c =
    cut_none c.args.text.now c.requires (λ k less is. c.in-None.ensures k (omega arith) less (ap (λ x. x == 10) is))
