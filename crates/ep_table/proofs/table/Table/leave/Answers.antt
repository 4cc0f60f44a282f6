use Rattle.std.proofs.Common.{ap, arith}
use Rattle.ep_machine.specs.Lists.{lowest_free}
use Rattle.ep_table.proofs.LowestFreeLemmas.{low_set}
use Rattle.ep_table.proofs.table.Table.leave.Goals as goal

pub invariant_of-self : goal.invariant_of-self
invariant_of-self g c = record { is_low = omega (arith, c.min-self.ensures, low_set c.args.self.now.slots.items c.args.number c.min-self.result (omega (arith, c.min-self.ensures)) (omega (arith, c.min-self.ensures, c.args.self.now.is_low)), ap lowest_free c.free.ensures) }
