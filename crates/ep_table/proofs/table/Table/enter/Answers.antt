use Rattle.std.proofs.Common.{ap, arith}
use Rattle.ep_machine.specs.Lists.{lowest_free}
use Rattle.ep_table.proofs.LowestFreeLemmas.{low_enter}
use Rattle.ep_table.proofs.table.Table.enter.Goals as goal

pub invariant_of-self : goal.invariant_of-self
invariant_of-self g c = record { is_low = omega (arith, c.lowest-number.ensures, ap lowest_free c.place.ensures.slots, low_enter c.args.self.now.slots.items c.args.descriptor) }
