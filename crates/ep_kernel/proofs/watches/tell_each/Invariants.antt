use Rattle.std.proofs.Common.{filter}
use Rattle.ep_interest.specs.Registrations.{is_of}
use Rattle.ep_kernel.proofs.WatchLemmas.{Lays}
use Rattle.ep_kernel.proofs.watches.tell_each.Given as goal

abbrev pub invariant-loop-entry : goal.invariant-loop-entry
invariant-loop-entry l = Lays l.parts (filter (is_of l.fn.instance) l.parts.interest.entries) l.fn.room l.asked l.count l.room l.entry-iterator
