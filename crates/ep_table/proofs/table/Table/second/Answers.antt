use Rattle.std.proofs.Common.{ap, arith, ◌+◌, ◌∙◌}
use Rattle.ep_table.proofs.LowestFreeLemmas.{lowest_within, second_from}
use Rattle.ep_table.proofs.table.Table.second.Goals as goal

pub overflow_add-lowest : goal.overflow_add-lowest
overflow_add-lowest g c = let s = c.args.self.now.slots.small in let t = c.args.self.now.slots.ok in omega (arith, c.lowest.ensures, lowest_within c.args.self.now.slots.items)

pub returns : goal.returns
returns g c = λ x. rw c.deref.ensures.value at c.next_free.ensures ∙ second_from c.args.self.now.slots.items x (c.lowest.result + 1) (ap (λ k. k + 1) c.lowest.ensures)
