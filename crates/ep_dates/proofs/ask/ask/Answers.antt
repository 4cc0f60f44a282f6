use Rattle.std.proofs.Common.{◌≡◌, ◌==◌, ◌∙◌, Bool, IsSome, None, Some, ap, arith, false, nat_lt, not, option_copied, subst, sym, true}
use Rattle.std.proofs.lemmas.Bool.Decides.{nat_tests}
use Rattle.ep_calls.proofs.EntryLemmas.{holds_under}
use Rattle.ep_calls.specs.Parts.{Parts}
use Rattle.ep_calls.specs.Stands.{IsLinked}
use Rattle.ep_dates.proofs.AskLemmas.{alike, asked_begun, asked_ended, asked_idle, asked_nothing, asked_same, other_truth, same_truth, unlike}
use Rattle.ep_dates.specs.Ask.{Asks}
use Rattle.ep_dates.specs.Dates.{is_dated}
use Rattle.ep_interest.specs.Registrations.{IsSound, entry_under}
use Rattle.ep_table.specs.Value.{number_under}
use Rattle.ep_dates.proofs.ask.ask.Goals as goal

pub returns-in_default : goal.returns-in_default
returns-in_default c =
    let p = c.args.parts.now in
    let none : entry_under p.interest c.args.id ≡ None = subst (λ (q : Parts). entry_under q.interest c.args.id ≡ None) c.parts.view_is (sym c.get.ensures ∙ ap option_copied c.in_default.is) in
    asked_nothing p (subst (λ (q : Parts). IsSound q.interest) c.parts.view_is c.known-2.ensures) c.args.question.comes c.args.question.event c.args.id c.args.dates.now c.requires.kept none

pub returns-then-is_dated-question : goal.returns-then-is_dated-question
returns-then-is_dated-question c =
    let p = c.args.parts.now in
    let x = c.in-Some.entry.now in
    let at : entry_under p.interest c.args.id ≡ Some x = subst (λ (q : Parts). entry_under q.interest c.args.id ≡ Some x) c.parts.view_is (sym c.get.ensures ∙ ap option_copied c.in-Some.is) in
    asked_same p (subst (λ (q : Parts). IsSound q.interest) c.parts.view_is c.known-2.ensures) c.args.question.comes c.args.question.event c.args.id c.args.dates.now c.requires.kept x at
    ((sym c.is_dated.ensures ∙ same_truth _ _ c.if-is_dated-question.true))

pub shows-requires : goal.shows-requires
shows-requires c =
    let k = c.parts.inside in
    let x = c.in-Some.entry.now in
    subst (λ (q : Parts). IsSome (number_under q.tables x.desc)) c.parts.view_is (holds_under (IsLinked k.tables.keys) k.interest c.args.id x c.parts.invariant.linked (sym c.in-Some.ensures)).desc

pub returns-then-shows-question : goal.returns-then-shows-question
returns-then-shows-question c =
    let p = c.args.parts.now in
    let x = c.in-Some.entry.now in
    let at : entry_under p.interest c.args.id ≡ Some x = subst (λ (q : Parts). entry_under q.interest c.args.id ≡ Some x) c.parts.view_is (sym c.get.ensures ∙ ap option_copied c.in-Some.is) in
    let shown = sym c.shows.ensures in
    asked_idle p (subst (λ (q : Parts). IsSound q.interest) c.parts.view_is c.known-2.ensures) c.args.question.comes c.args.question.event c.args.id c.args.dates.now c.requires.kept x at
    (shown ∙ unlike _ _ c.if-shows-question.true)

pub returns-then-question : goal.returns-then-question
returns-then-question c =
    let p = c.args.parts.now in
    let x = c.in-Some.entry.now in
    let at : entry_under p.interest c.args.id ≡ Some x = subst (λ (q : Parts). entry_under q.interest c.args.id ≡ Some x) c.parts.view_is (sym c.get.ensures ∙ ap option_copied c.in-Some.is) in
    let shown = sym c.shows.ensures in
    let comes = c.if-question.true in
    let was : is_dated c.args.dates.now x ≡ false = (sym c.is_dated.ensures ∙ other_truth _ _ c.if-is_dated-question.false ∙ ap not comes) in
    let up : nat_lt 0 c.args.question.event ≡ true = let positive = c.requires.event in grind (arith, nat_tests, positive) in
    subst (λ (w : Bool). Asks w c.args.question.event p (λ k. k == c.args.id.0) c.args.dates.now c.begin.new.self) (sym comes)
    (subst (Asks true c.args.question.event p (λ k. k == c.args.id.0) c.args.dates.now) (sym c.begin.ensures)
    (asked_begun p (subst (λ (q : Parts). IsSound q.interest) c.parts.view_is c.known-2.ensures) c.args.question.event up c.args.id c.args.dates.now c.requires.kept x at
    (λ i t. ((c.requires.turned i t).0 ∙ comes, (c.requires.turned i t).1)) was (shown ∙ (alike _ _ c.if-shows-question.false ∙ comes))))

pub returns-else-question : goal.returns-else-question
returns-else-question c =
    let p = c.args.parts.now in
    let x = c.in-Some.entry.now in
    let at : entry_under p.interest c.args.id ≡ Some x = subst (λ (q : Parts). entry_under q.interest c.args.id ≡ Some x) c.parts.view_is (sym c.get.ensures ∙ ap option_copied c.in-Some.is) in
    let shown = sym c.shows.ensures in
    let goes = c.if-question.false in
    let was : is_dated c.args.dates.now x ≡ true = (sym c.is_dated.ensures ∙ other_truth _ _ c.if-is_dated-question.false ∙ ap not goes) in
    let up : nat_lt 0 c.args.question.event ≡ true = let positive = c.requires.event in grind (arith, nat_tests, positive) in
    subst (λ (w : Bool). Asks w c.args.question.event p (λ k. k == c.args.id.0) c.args.dates.now c.end.new.self) (sym goes)
    (subst (Asks false c.args.question.event p (λ k. k == c.args.id.0) c.args.dates.now) (sym c.end.ensures)
    (asked_ended p (subst (λ (q : Parts). IsSound q.interest) c.parts.view_is c.known-2.ensures) c.args.question.event up c.args.id c.args.dates.now c.requires.kept x at
    (λ i t. ((c.requires.turned i t).0 ∙ goes, (c.requires.turned i t).1)) was (shown ∙ (alike _ _ c.if-shows-question.false ∙ goes))))
