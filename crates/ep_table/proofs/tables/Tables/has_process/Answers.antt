use Rattle.std.proofs.Common.{None, ap, get_or, ◌∙◌}
use Rattle.ep_table.proofs.LookupLemmas.{there_is}
use Rattle.ep_table.proofs.tables.Tables.has_process.Goals as goal

pub returns : goal.returns
returns g c = c.is_some.ensures ∙ there_is c.self.inside c.args.self.now c.args.pid.0 c.table_at.result c.self.view_is (c.table_at.ensures ∙ ap (λ xs. get_or xs c.args.pid.0 None) c.deref.ensures.value)
