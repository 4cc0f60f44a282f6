use Rattle.std.proofs.Common.{◌∙◌}
use Rattle.ep_plain.proofs.by_dates.ByDatesReadiness.is_ready.Goals as goal

pub returns-clause-ready : goal.returns-clause-ready
returns-clause-ready c = c.is_ready.ensures ∙ c.requires.knows c.args.instance c.requires.live
