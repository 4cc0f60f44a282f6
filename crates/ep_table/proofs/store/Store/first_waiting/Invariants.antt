use Rattle.std.proofs.Common.{drop, length, ◌-◌, ◌≡◌}
use Rattle.ep_machine.specs.Connections.{first_waiting, pending_in}
use Rattle.ep_table.specs.Value.{content_of, files_in, thing_number}
use Rattle.ep_table.proofs.store.Store.first_waiting.Given as goal

abbrev pub invariant-loop-number : goal.invariant-loop-number
invariant-loop-number g l =
    let pending = pending_in (content_of (files_in l.self) (thing_number l.self l.key)) in
    first_waiting (files_in l.self) pending ≡ first_waiting (files_in l.self) (drop l.index pending)

abbrev pub decreases-loop-number : goal.decreases-loop-number
decreases-loop-number g l = length (pending_in (content_of (files_in l.self) (thing_number l.self l.key))) - l.index
