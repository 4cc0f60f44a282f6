use Rattle.std.proofs.Common.{sym, subst, None, Option}
use Rattle.std.proofs.lemmas.Bool.{false≢true}
use Rattle.ep_base.specs.declared.ids.EntryId.{EntryId}
use Rattle.ep_dates.proofs.AskLemmas.{shows_rises}
use Rattle.ep_dates.proofs.TurnLemmas.{turns_none}
use Rattle.ep_dates.specs.Ask.{Asks, shows_over}
use Rattle.ep_dates.specs.Touched.{is_it}
use Rattle.ep_dates.proofs.come.ask_altered.Goals as goal

pub returns-in-None : goal.returns-in-None
returns-in-None c =
    subst (λ (o : Option EntryId). Asks c.args.question.comes c.args.question.event c.args.parts.now (is_it o) c.args.dates.now c.args.dates.now) (sym c.in-None.is)
    (turns_none c.args.question.comes c.args.question.event c.args.parts.now.interest (shows_over c.args.parts.now) (shows_rises c.args.parts.now) (is_it None) c.args.dates.now c.requires.kept (λ id x at h. absurd (false≢true h)))
