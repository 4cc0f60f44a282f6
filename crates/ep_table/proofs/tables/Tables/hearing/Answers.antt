use Rattle.std.proofs.Common.{◌∙◌, ap}
use Rattle.ep_machine.specs.Objects.{hearing}
use Rattle.ep_table.specs.Value.{Seen}
use Rattle.ep_table.proofs.tables.Tables.hearing.Goals as goal

pub returns : goal.returns
returns g c = c.hearing.ensures ∙ ap (λ (v : Seen). hearing v.files.objects c.args.call.now) c.self.view_is
