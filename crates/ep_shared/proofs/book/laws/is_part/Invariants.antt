use Rattle.std.proofs.Common.{◌≡◌, ◌≤◌, length, drop}
use Rattle.std.specs.Prelude.{◌↔◌}
use Rattle.ep_shared.specs.Parts.{part}
use Rattle.ep_shared.proofs.book.laws.is_part.Given as goal

abbrev pub invariant-loop-r : goal.invariant-loop-r
invariant-loop-r l = (l.k ≤ length l.records) × (part l.fn.caller l.r-iterator ≡ drop l.k l.records ↔ part l.fn.caller l.history.items ≡ l.records)
