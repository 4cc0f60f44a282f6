use Rattle.std.proofs.Common.{◌≡◌, ◌++◌, drop, vec_items}
use Rattle.ep_records.proofs.history.History.copies_from.Given as goal

abbrev pub invariant-loop-entry : goal.invariant-loop-entry
invariant-loop-entry l = vec_items l.copies ++ l.entry-iterator ≡ drop l.fn.place l.fn.self.items
