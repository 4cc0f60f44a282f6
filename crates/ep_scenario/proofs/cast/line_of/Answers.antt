use Rattle.std.proofs.Common.{◌<◌, ◌≡◌, ◌==◌, ◌∙◌, ap, arith, length, map, rules, subst, sym}
use Rattle.std.proofs.lemmas.List.{length-map}
use Rattle.ep_scenario.specs.Reading.{Part, no_part, part_of}
use Rattle.ep_scenario.proofs.PutLemmas.{NoneUpTo, none_more, number_here, number_new, part_at, put_here, put_new}
use Rattle.ep_scenario.proofs.cast.line_of.Goals as goal

pub returns-then-is_by-clause-there : goal.returns-then-is_by-clause-there
returns-then-is_by-clause-there c =
    let at = part_at c.args.lines.now c.loop-number.number c.index-lines-number.result (search rules) c.index-lines-number.is in
    let here = ap (λ (p : Part). p.0.0 == c.args.caller.0) at ∙ (sym c.is_by.ensures ∙ c.if-is_by.true) in
    let parts = map part_of c.args.lines.now in
    let within : c.loop-number.number < length (map part_of c.args.lines.now) = omega (arith, length-map c.args.lines.now part_of) in (
      within,
      number_here c.args.caller parts c.loop-number.number within c.loop-number.invariant here,
      λ e. put_here c.args.caller e parts c.loop-number.number within c.loop-number.invariant here,
    )

pub loop-number-preserved : goal.loop-number-preserved
loop-number-preserved c =
    let at = part_at c.args.lines.now c.loop-number.number c.index-lines-number.result (search rules) c.index-lines-number.is in
    none_more c.args.caller (map part_of c.args.lines.now) c.loop-number.number c.loop-number.invariant (ap (λ (p : Part). p.0.0 == c.args.caller.0) at ∙ (sym c.is_by.ensures ∙ c.if-is_by.false))

pub returns-clause-missing : goal.returns-clause-missing
returns-clause-missing c = λ none.
    let parts = map part_of c.args.lines.now in
    let no : NoneUpTo c.args.caller parts (length parts) = λ k less inside. c.loop-number.invariant k (omega (arith, inside, length-map c.args.lines.now part_of)) inside in
    (number_new c.args.caller parts no, λ e. put_new c.args.caller e parts no)
