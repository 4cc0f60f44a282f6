use Rattle.ep_table.proofs.LeavesLemmas.{leaves_here, still_leaving}
use Rattle.ep_table.proofs.tables.Tables.let_go.Goals as goal

pub invariant_of-self : goal.invariant_of-self
invariant_of-self g c = still_leaving c.self.inside c.args.self.now c.self.invariant c.self.view_is c.known.ensures c.known-2.ensures c.let_go.new.self c.let_go.ensures

pub returns : goal.returns
returns g c = leaves_here c.self.inside c.args.self.now c.self.invariant c.self.view_is c.known.ensures c.known-2.ensures c.let_go.new.self c.let_go.ensures
