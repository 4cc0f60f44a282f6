use Rattle.std.proofs.Common.{List, ap, arith, subst, sym, ℕ, ◌<◌, ◌^◌, ◌∙◌}
use Rattle.std.specs.Str.Parse.{IsNumeral, digits_value}
use Rattle.std.proofs.lemmas.Str.Pattern.{split_after}
use Rattle.ep_text.proofs.LimitsText.{no_comma}
use Rattle.ep_text.proofs.limits.number_and_rest.Goals as goal

pub returns-in_err-run-clause-found : goal.returns-in_err-run-clause-found
returns-in_err-run-clause-found c = λ run rest e d small.
    let parts = split_after 44 c.args.text.now run rest c.split_once.result c.split_once.ensures.cases (omega arith) e (no_comma run d) in
    absurd (rw c.in_err-run.was at parts)

pub returns-in_err-number-clause-found : goal.returns-in_err-number-clause-found
returns-in_err-number-clause-found c = λ run rest e d small.
    let parts = split_after 44 c.args.text.now run rest c.split_once.result c.split_once.ensures.cases (omega arith) e (no_comma run d) in
    let same = rw c.in_ok-run.was at parts in
    absurd (c.in_err-number.ensures (subst (λ (t : List ℕ). IsNumeral 10 t × (digits_value 10 t < 2 ^ 32)) (sym same.0) (d, small)))

pub returns-clause-found : goal.returns-clause-found
returns-clause-found c = λ run rest e d small.
    let parts = split_after 44 c.args.text.now run rest c.split_once.result c.split_once.ensures.cases (omega arith) e (no_comma run d) in
    let same = rw c.in_ok-run.was at parts in
    (c.in_ok-number.ensures.1 ∙ ap (digits_value 10) same.0, same.1)
