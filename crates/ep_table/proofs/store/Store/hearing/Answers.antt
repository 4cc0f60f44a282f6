use Rattle.std.proofs.Common.{ap, sym, ◌∙◌}
use Rattle.ep_machine.specs.Objects.{hearing}
use Rattle.ep_table.proofs.TakingLemmas.{none_heard}
use Rattle.ep_table.proofs.store.Store.hearing.Goals as goal

pub returns-in-Connect : goal.returns-in-Connect
returns-in-Connect g c = c.hears.ensures ∙ ap (hearing c.args.self.now.objects) (sym c.in-Connect.is)

pub returns-in_default : goal.returns-in_default
returns-in_default g c = none_heard c.args.self.now.objects c.args.call.now c.in_default.not-Connect
