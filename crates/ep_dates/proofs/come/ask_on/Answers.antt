use Rattle.std.proofs.Common.{◌∙◌, sym}
use Rattle.ep_dates.proofs.EachLemmas.{above_noted}
use Rattle.ep_dates.proofs.come.ask_on.Goals as goal

pub returns-else-not-has_turned : goal.returns-else-not-has_turned
returns-else-not-has_turned c = above_noted c.args.question.comes c.args.question.event c.args.parts.now c.args.dates.now c.args.instance.0 c.requires.kept (sym c.has_turned.ensures ∙ c.if-not-has_turned.false)
