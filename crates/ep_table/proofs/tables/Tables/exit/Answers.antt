use Rattle.ep_machine.specs.Tables.{exit}
use Rattle.ep_table.proofs.LeavesLemmas.{leaves_after}
use Rattle.ep_table.proofs.tables.Tables.exit.Goals as goal

pub returns : goal.returns
returns g c = leaves_after c.args.self.now c.end_process.new.self c.let_go.new.self (exit c.args.self.now.files c.args.pid.0) c.end_process.ensures c.let_go.ensures
