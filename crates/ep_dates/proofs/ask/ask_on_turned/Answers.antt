use Rattle.std.proofs.Common.{◌≡◌, ◌==◌, ◌∙◌, Bool, None, Some, ap, arith, false, nat_lt, not, option_copied, subst, sym, true}
use Rattle.std.proofs.lemmas.Bool.{not-false, not-true}
use Rattle.std.proofs.lemmas.Bool.Decides.{nat_tests}
use Rattle.ep_calls.specs.Parts.{Parts}
use Rattle.ep_dates.proofs.AskLemmas.{asked_begun, asked_ended, asked_idle, asked_nothing, asked_same, other_truth, same_truth}
use Rattle.ep_dates.proofs.TurnedLemmas.{idle_shows, ready_shows}
use Rattle.ep_dates.specs.Ask.{Asks, shows_by, shows_over}
use Rattle.ep_dates.specs.Dates.{is_dated}
use Rattle.ep_interest.specs.Registrations.{IsSound, entry_under}
use Rattle.ep_dates.proofs.ask.ask_on_turned.Goals as goal

pub returns-in_default : goal.returns-in_default
returns-in_default c =
    let p = c.args.parts.now in
    let none : entry_under p.interest c.args.id ≡ None = subst (λ (q : Parts). entry_under q.interest c.args.id ≡ None) c.parts.view_is (sym c.get.ensures ∙ ap option_copied c.in_default.is) in
    asked_nothing p (subst (λ (q : Parts). IsSound q.interest) c.parts.view_is c.known.ensures) c.args.question.comes c.args.question.event c.args.id c.args.dates.now c.requires.kept none

pub returns-then-is_dated-question : goal.returns-then-is_dated-question
returns-then-is_dated-question c =
    let p = c.args.parts.now in
    let x = c.in-Some.entry.now in
    let at : entry_under p.interest c.args.id ≡ Some x = subst (λ (q : Parts). entry_under q.interest c.args.id ≡ Some x) c.parts.view_is (sym c.get.ensures ∙ ap option_copied c.in-Some.is) in
    asked_same p (subst (λ (q : Parts). IsSound q.interest) c.parts.view_is c.known.ensures) c.args.question.comes c.args.question.event c.args.id c.args.dates.now c.requires.kept x at
    ((sym c.is_dated.ensures ∙ same_truth _ _ c.if-is_dated-question.true))

pub returns-then-not-question : goal.returns-then-not-question
returns-then-not-question c =
    let p = c.args.parts.now in
    let x = c.in-Some.entry.now in
    let at : entry_under p.interest c.args.id ≡ Some x = subst (λ (q : Parts). entry_under q.interest c.args.id ≡ Some x) c.parts.view_is (sym c.get.ensures ∙ ap option_copied c.in-Some.is) in
    let goes : c.args.question.comes ≡ false = not-true c.args.question.comes c.if-not-question.true in
    let was : is_dated c.args.dates.now x ≡ true = (sym c.is_dated.ensures ∙ other_truth _ _ c.if-is_dated-question.false ∙ ap not goes) in
    let up : nat_lt 0 c.args.question.event ≡ true = let positive = c.requires.event in grind (arith, nat_tests, positive) in
    let on = c.requires.there x at in
    let idle : shows_by (shows_over p) c.args.dates.now x ≡ false = ap (λ (b : Bool). shows_over p b x) (on.1 ∙ goes) ∙ idle_shows p x on.0 in
    subst (λ (w : Bool). Asks w c.args.question.event p (λ k. k == c.args.id.0) c.args.dates.now c.end.new.self) (sym goes)
    (subst (Asks false c.args.question.event p (λ k. k == c.args.id.0) c.args.dates.now) (sym c.end.ensures)
    (asked_ended p (subst (λ (q : Parts). IsSound q.interest) c.parts.view_is c.known.ensures) c.args.question.event up c.args.id c.args.dates.now c.requires.kept x at
    (λ i t. ((c.requires.turned i t).0 ∙ goes, (c.requires.turned i t).1)) was idle))

pub returns-then-shows_in : goal.returns-then-shows_in
returns-then-shows_in c =
    let p = c.args.parts.now in
    let x = c.in-Some.entry.now in
    let at : entry_under p.interest c.args.id ≡ Some x = subst (λ (q : Parts). entry_under q.interest c.args.id ≡ Some x) c.parts.view_is (sym c.get.ensures ∙ ap option_copied c.in-Some.is) in
    let comes : c.args.question.comes ≡ true = not-false c.args.question.comes c.if-not-question.false in
    let was : is_dated c.args.dates.now x ≡ false = (sym c.is_dated.ensures ∙ other_truth _ _ c.if-is_dated-question.false ∙ ap not comes) in
    let up : nat_lt 0 c.args.question.event ≡ true = let positive = c.requires.event in grind (arith, nat_tests, positive) in
    let on = c.requires.there x at in
    let shown : shows_by (shows_over p) c.args.dates.now x ≡ true = ap (λ (b : Bool). shows_over p b x) (on.1 ∙ comes) ∙ (ready_shows p x on.0 ∙ (sym c.shows_in.ensures ∙ c.if-shows_in.true)) in
    subst (λ (w : Bool). Asks w c.args.question.event p (λ k. k == c.args.id.0) c.args.dates.now c.begin.new.self) (sym comes)
    (subst (Asks true c.args.question.event p (λ k. k == c.args.id.0) c.args.dates.now) (sym c.begin.ensures)
    (asked_begun p (subst (λ (q : Parts). IsSound q.interest) c.parts.view_is c.known.ensures) c.args.question.event up c.args.id c.args.dates.now c.requires.kept x at
    (λ i t. ((c.requires.turned i t).0 ∙ comes, (c.requires.turned i t).1)) was shown))

pub returns-else-shows_in : goal.returns-else-shows_in
returns-else-shows_in c =
    let p = c.args.parts.now in
    let x = c.in-Some.entry.now in
    let at : entry_under p.interest c.args.id ≡ Some x = subst (λ (q : Parts). entry_under q.interest c.args.id ≡ Some x) c.parts.view_is (sym c.get.ensures ∙ ap option_copied c.in-Some.is) in
    let comes : c.args.question.comes ≡ true = not-false c.args.question.comes c.if-not-question.false in
    let on = c.requires.there x at in
    let idle : shows_by (shows_over p) c.args.dates.now x ≡ false = ap (λ (b : Bool). shows_over p b x) (on.1 ∙ comes) ∙ (ready_shows p x on.0 ∙ (sym c.shows_in.ensures ∙ c.if-shows_in.false)) in
    asked_idle p (subst (λ (q : Parts). IsSound q.interest) c.parts.view_is c.known.ensures) c.args.question.comes c.args.question.event c.args.id c.args.dates.now c.requires.kept x at
    (idle ∙ ap not (sym comes))
