use Rattle.ep_table.proofs.ApplyLemmas.{ok_same, still_tables, value_applied}
use Rattle.ep_table.proofs.tables.Tables.apply.Goals as goal
use Rattle.ep_table.specs.Value.{objects_after}

pub returns-clause-files : goal.returns-clause-files
returns-clause-files g c =
    ok_same c.apply.result _ _ (value_applied c.self.inside c.args.self.now c.self.view_is c.args.desc c.args.now c.args.call.now c.apply.new.self) c.apply.ensures.objects

pub invariant_of-self : goal.invariant_of-self
invariant_of-self g c =
    let v = c.self.inside.store in
    still_tables c.self.inside c.apply.result c.apply.new.self (objects_after v c.args.desc c.args.now c.args.call.now) c.self.invariant c.apply.ensures.objects c.apply.ensures.err
