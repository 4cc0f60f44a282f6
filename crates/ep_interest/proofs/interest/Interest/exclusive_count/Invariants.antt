use Rattle.std.proofs.Common.{filter, length, ◌+◌, ◌≡◌}
use Rattle.ep_interest.specs.Exclusive.{exclusive_of}
use Rattle.ep_interest.specs.Registrations.{is_of, with_ids}
use Rattle.ep_interest.proofs.interest.Interest.exclusive_count.Given as goal

-- those that were counted and those that are left are all
abbrev pub invariant-loop-entry : goal.invariant-loop-entry
invariant-loop-entry g l = l.counted + length (exclusive_of l.entry-iterator) ≡ length (exclusive_of (with_ids l.self (filter (is_of l.fn.instance) l.self.entries)))
