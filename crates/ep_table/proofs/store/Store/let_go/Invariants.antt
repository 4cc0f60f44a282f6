use Rattle.std.proofs.Common.{[], length, take, ◌-◌, ◌≤◌}
use Rattle.ep_table.specs.LettingGo.{LetsGo, pending_of}
use Rattle.ep_table.specs.Value.{files_in}
use Rattle.ep_table.proofs.store.Store.let_go.Given as goal

abbrev pub invariant-loop-left : goal.invariant-loop-left
invariant-loop-left g l = record {
  within : l.left ≤ length l.fn.self.dying;
  gone : LetsGo (record l.fn.self { losses = [] }) l.self (pending_of (files_in l.fn.self) (take (length l.fn.self.dying - l.left) l.fn.self.dying));
}

abbrev pub decreases-loop-left : goal.decreases-loop-left
decreases-loop-left g l = l.left
