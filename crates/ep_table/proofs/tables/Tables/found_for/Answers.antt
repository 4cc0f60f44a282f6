use Rattle.std.proofs.Common.{◌∙◌, ap}
use Rattle.ep_machine.specs.Objects.{found_for, is_taken}
use Rattle.ep_table.specs.Value.{Seen}
use Rattle.ep_table.proofs.tables.Tables.found_for.Goals as goal

pub returns : goal.returns
returns g c = c.found_for.ensures ∙ ap (λ (v : Seen). found_for (is_taken v.files.objects) c.args.call.now) c.self.view_is
