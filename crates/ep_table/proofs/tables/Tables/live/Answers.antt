use Rattle.std.proofs.Common.{ap, ◌∙◌}
use Rattle.ep_table.specs.Live.{live_ids}
use Rattle.ep_table.specs.Value.{Seen}
use Rattle.ep_table.proofs.tables.Tables.live.Goals as goal

pub returns-clause-exact : goal.returns-clause-exact
returns-clause-exact g c = c.live.ensures.exact ∙ ap (λ (v : Seen). live_ids v.keys) c.self.view_is
