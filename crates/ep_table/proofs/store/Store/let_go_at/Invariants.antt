use Rattle.std.proofs.Common.{length, take, ◌-◌}
use Rattle.ep_machine.specs.Connections.{pending_in}
use Rattle.ep_table.specs.LettingGo.{LetsGo}
use Rattle.ep_table.specs.Value.{content_of, files_in, thing_number}
use Rattle.ep_table.proofs.store.Store.let_go_at.Given as goal

abbrev pub invariant-loop-number : goal.invariant-loop-number
invariant-loop-number g l = LetsGo l.fn.self l.self (take l.index (pending_in (content_of (files_in l.fn.self) (thing_number l.fn.self l.key))))

abbrev pub decreases-loop-number : goal.decreases-loop-number
decreases-loop-number g l = length (pending_in (content_of (files_in l.fn.self) (thing_number l.fn.self l.key))) - l.index
