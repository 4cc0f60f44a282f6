use Rattle.std.proofs.Common.{◌∙◌, ap, arith, map, rules, sym}
use Rattle.std.specs.Prelude.{bytes_eq}
use Rattle.std.proofs.lemmas.List.{length-map}
use Rattle.ep_scenario.specs.Outcomes.{Seen, seen_of}
use Rattle.ep_scenario.proofs.CountLemmas.{counted_here, counted_new, none_more, seen_at}
use Rattle.ep_scenario.proofs.tally.place_of.Goals as goal

pub returns-then-is_told-clause-seen : goal.returns-then-is_told-clause-seen
returns-then-is_told-clause-seen c =
    let at = seen_at c.args.outcomes.now c.loop-place.place c.index-outcomes-place.result (search rules) c.index-outcomes-place.is in
    let here = ap (λ (s : Seen). bytes_eq s.told c.args.told.now) at ∙ (sym c.is_told.ensures ∙ c.if-is_told.true) in
    (omega (arith, length-map c.args.outcomes.now seen_of), λ steps number. counted_here c.args.told.now steps number (map seen_of c.args.outcomes.now) c.loop-place.place (omega (arith, length-map c.args.outcomes.now seen_of)) c.loop-place.invariant here)

pub loop-place-preserved : goal.loop-place-preserved
loop-place-preserved c =
    let at = seen_at c.args.outcomes.now c.loop-place.place c.index-outcomes-place.result (search rules) c.index-outcomes-place.is in
    none_more c.args.told.now (map seen_of c.args.outcomes.now) c.loop-place.place c.loop-place.invariant (ap (λ (s : Seen). bytes_eq s.told c.args.told.now) at ∙ (sym c.is_told.ensures ∙ c.if-is_told.false))

pub returns-clause-unseen : goal.returns-clause-unseen
returns-clause-unseen c = λ none steps number. counted_new c.args.told.now steps number (map seen_of c.args.outcomes.now) (λ k less inside. c.loop-place.invariant k (omega (arith, inside, length-map c.args.outcomes.now seen_of)) inside)
