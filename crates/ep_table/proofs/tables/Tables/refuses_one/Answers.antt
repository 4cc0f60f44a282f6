use Rattle.std.proofs.Common.{ap, ◌∙◌, ℕ}
use Rattle.ep_machine.specs.Effect.{first}
use Rattle.ep_machine.specs.Tables.{create_refusals}
use Rattle.ep_table.proofs.LookupLemmas.{one_is}
use Rattle.ep_table.proofs.tables.Tables.refuses_one.Goals as goal

pub returns : goal.returns
returns g c =
    let v = c.args.self.now in
    c.refuses.ensures.first ∙ ap (λ (n : ℕ). first (create_refusals v.limits v.files n 1)) (one_is c.self.inside v c.args.pid.0 c.lowest.result c.deref.result.now c.self.view_is c.deref.ensures.value c.lowest.ensures)
