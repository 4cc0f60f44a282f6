use Rattle.std.proofs.Common.{sym, subst, None, Option}
use Rattle.std.proofs.lemmas.Bool.{false≢true}
use Rattle.ep_base.specs.declared.ids.DescId.{DescId}
use Rattle.ep_dates.proofs.AskLemmas.{shows_rises}
use Rattle.ep_dates.proofs.TurnLemmas.{turns_none}
use Rattle.ep_dates.specs.Ask.{Asks, shows_over}
use Rattle.ep_dates.specs.Touched.{watches_maybe}
use Rattle.ep_dates.proofs.go.ask_called.Goals as goal

pub returns-in-None : goal.returns-in-None
returns-in-None c =
    let p = c.args.parts.now in
    subst (λ (o : Option DescId). Asks c.args.question.comes c.args.question.event p (watches_maybe p.interest o) c.args.dates.now c.args.dates.now) (sym c.in-None.is)
    (turns_none c.args.question.comes c.args.question.event p.interest (shows_over p) (shows_rises p) (watches_maybe p.interest None) c.args.dates.now c.requires.kept (λ id x at h. absurd (false≢true h)))
