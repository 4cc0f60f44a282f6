use Rattle.ep_machine.specs.Tables.{exec}
use Rattle.ep_table.proofs.LeavesLemmas.{leaves_after}
use Rattle.ep_table.proofs.tables.Tables.exec.Goals as goal

pub returns : goal.returns
returns g c = leaves_after c.args.self.now c.close_flagged.new.self c.let_go.new.self (exec c.args.self.now.files c.args.pid.0) c.close_flagged.ensures c.let_go.ensures
