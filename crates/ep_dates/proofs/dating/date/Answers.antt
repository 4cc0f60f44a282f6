use Rattle.std.proofs.Common.{◌≡◌, ◌∙◌, inl, inr, subst, true}
use Rattle.std.proofs.lemmas.Bool.{cases_Bool}
use Rattle.ep_calls.specs.Parts.{Parts}
use Rattle.ep_dates.proofs.AskLemmas.{shows_rises}
use Rattle.ep_dates.proofs.DateLemmas.{date_is, ready_is}
use Rattle.ep_dates.proofs.TurnLemmas.{shows_kept}
use Rattle.ep_dates.specs.Ask.{shows_over}
use Rattle.ep_dates.specs.Dates.{is_dated, is_ready}
use Rattle.ep_dates.specs.Touched.{touched_of}
use Rattle.ep_interest.specs.Registrations.{IsSound}
use Rattle.ep_machine.specs.Watches.{is_legal}
use Rattle.ep_nest.specs.Links.{edges}
use Rattle.ep_dates.proofs.dating.date.Goals as goal

pub go-requires-clause-others : goal.go-requires-clause-others
go-requires-clause-others c = λ id x at spared dated.
    let p = c.args.parts.now in
    elim (cases_Bool (is_dated c.args.dates.now x)) [
      | inl old ↦ shows_kept true (is_ready c.args.dates.now x.desc.0) (is_ready c.come.new.dates x.desc.0) (λ f. shows_over p f x) (shows_rises p x) (c.come.ensures.comes.rises x.desc.0) (c.requires.ends id x at spared old)
      | inr fresh ↦ c.come.ensures.comes.turns id x at fresh dated
    ]

pub returns-clause-dates : goal.returns-clause-dates
returns-clause-dates c =
    let p = c.args.parts.now in
    let sound = subst (λ (q : Parts). IsSound q.interest) c.parts.view_is c.known-2.ensures in
    let legal = subst (λ (q : Parts). is_legal (edges q.graph) ≡ true) c.parts.view_is c.known-3.ensures.legal in
    date_is c.args.event p c.known.ensures.coherent c.known.ensures.sound sound legal (touched_of c.args.touched.now) c.args.dates.now c.come.new.dates c.go.new.dates c.come.ensures.comes c.come.ensures.settled c.go.ensures.goes c.go.ensures.settled c.requires.begins
    c.args.touched.now.reported.now c.requires.reported c.renew_each.new.dates c.renew_each.ensures

pub returns-clause-ready : goal.returns-clause-ready
returns-clause-ready c = λ i lives.
    let p = c.args.parts.now in
    let sound = subst (λ (q : Parts). IsSound q.interest) c.parts.view_is c.known-2.ensures in
    let legal = subst (λ (q : Parts). is_legal (edges q.graph) ≡ true) c.parts.view_is c.known-3.ensures.legal in
    c.renew_each.ensures.ready i.0
    ∙ ready_is c.args.event p c.known.ensures.coherent c.known.ensures.sound sound legal (touched_of c.args.touched.now) c.args.dates.now c.come.new.dates c.go.new.dates c.come.ensures.comes c.come.ensures.settled c.go.ensures.goes c.go.ensures.settled c.requires.begins i lives
