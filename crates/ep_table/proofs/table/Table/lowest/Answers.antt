use Rattle.std.proofs.Common.{◌∙◌}
use Rattle.ep_table.proofs.LowestFreeLemmas.{lowest_from}
use Rattle.ep_table.proofs.table.Table.lowest.Goals as goal

pub returns : goal.returns
returns g c = rw c.deref.ensures.value at c.next_free.ensures ∙ lowest_from c.args.self.now.slots.items c.args.self.now.low c.args.self.now.is_low
