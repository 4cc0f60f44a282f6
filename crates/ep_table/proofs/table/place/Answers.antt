use Rattle.std.proofs.Common.{Some, ap, arith, slice_set, sym, ◌∙◌}
use Rattle.ep_table.proofs.LowestFreeLemmas.{enter_end, enter_set}
use Rattle.ep_table.proofs.table.place.Goals as goal

pub returns-then-number-len-clause-slots : goal.returns-then-number-len-clause-slots
returns-then-number-len-clause-slots g c = ap (λ i. slice_set c.args.slots.now.items i (Some c.args.descriptor)) c.requires.number ∙ sym (enter_set c.args.slots.now.items c.args.descriptor (omega (arith, c.len.ensures)))

pub returns-else-number-len-clause-slots : goal.returns-else-number-len-clause-slots
returns-else-number-len-clause-slots g c = c.push_reserved.ensures.items ∙ sym (enter_end c.args.slots.now.items c.args.descriptor (omega (arith, c.len.ensures)))
