use Rattle.std.proofs.Common.{◌∙◌, ap, sym}
use Rattle.ep_calls.specs.Parts.{Parts}
use Rattle.ep_choice.proofs.AnswersLemmas.{answered_found, answered_vain, answers_on}
use Rattle.ep_interest.specs.Registrations.{entry_found, entry_under}
use Rattle.ep_choice.proofs.choosing.finds.Goals as goal

pub returns-then-has-clause-exact : goal.returns-then-has-clause-exact
returns-then-has-clause-exact g c =
    let p = c.args.parts.now in
    let under = ap (λ (q : Parts). entry_under q.interest c.args.id) (sym c.parts.view_is) ∙ (ap (entry_found c.parts.inside.interest.entries) c.entry.ensures.number ∙ c.entry.ensures.entry) in
    answered_found p.tables p.clock p.interest p.parked c.args.id c.entry.result.now under c.args.candidates.now c.requires.answers (sym c.has.ensures ∙ c.if-has.true)

pub returns-then-has-2-clause-exact : goal.returns-then-has-2-clause-exact
returns-then-has-2-clause-exact g c =
    let p = c.args.parts.now in
    let under = ap (λ (q : Parts). entry_under q.interest c.args.id) (sym c.parts.view_is) ∙ (ap (entry_found c.parts.inside.interest.entries) c.entry.ensures.number ∙ c.entry.ensures.entry) in
    answered_vain p.tables p.clock p.interest p.parked c.args.id c.entry.result.now under c.args.candidates.now c.requires.answers (sym c.has-2.ensures ∙ c.if-has-2.true)

pub returns-clause-answers : goal.returns-clause-answers
returns-clause-answers g c =
    let p = c.args.parts.now in
    let under = ap (λ (q : Parts). entry_under q.interest c.args.id) (sym c.parts.view_is) ∙ (ap (entry_found c.parts.inside.interest.entries) c.entry.ensures.number ∙ c.entry.ensures.entry) in
    answers_on p.tables p.clock p.interest p.parked c.args.id c.entry.result.now under c.args.candidates.now c.note.new.self c.ask-finds.result c.requires.answers c.ask-finds.ensures.exact c.note.ensures
