use Rattle.std.proofs.Common.{IfNone, ap, subst, ◌<◌, ◌∙◌, ℕ}
use Rattle.ep_machine.specs.Effect.{first}
use Rattle.ep_machine.specs.Tables.{create_refusals}
use Rattle.ep_table.proofs.LookupLemmas.{second_is}
use Rattle.ep_table.proofs.tables.Tables.refuses_two.Goals as goal

pub returns-clause-first : goal.returns-clause-first
returns-clause-first g c =
    let v = c.args.self.now in
    c.refuses.ensures.first ∙ ap (λ (n : ℕ). first (create_refusals v.limits v.files n 2)) (second_is c.self.inside v c.args.pid.0 c.second.result c.deref.result.now c.self.view_is c.deref.ensures.value c.second.ensures)

pub returns-clause-small : goal.returns-clause-small
returns-clause-small g c =
    let v = c.args.self.now in
    subst (λ (n : ℕ). IfNone c.refuses.result (n < 65536)) (second_is c.self.inside v c.args.pid.0 c.second.result c.deref.result.now c.self.view_is c.deref.ensures.value c.second.ensures) c.refuses.ensures.small
