use Rattle.std.proofs.Common.{IfOk, None, OnErr, subst, ◌≡◌, ℕ}
use Rattle.ep_machine.specs.Effect.{first}
use Rattle.ep_table.proofs.ApplyLemmas.{ok_same, still_tables, value_applied}
use Rattle.ep_table.proofs.tables.Tables.apply_naming.Goals as goal
use Rattle.ep_table.specs.Value.{Seen, effect_under, number_of, objects_after, refusals_at}

pub returns-clause-answer : goal.returns-clause-answer
returns-clause-answer g c = subst (λ (v : Seen). IfOk c.apply_naming.result (λ r. (now : ℕ) → r.0 ≡ (effect_under v c.args.desc now c.args.call.now).0)) c.self.view_is c.apply_naming.ensures.answer

pub returns-clause-raised : goal.returns-clause-raised
returns-clause-raised g c = subst (λ (v : Seen). IfOk c.apply_naming.result (λ r. (now : ℕ) → r.1 ≡ (effect_under v c.args.desc now c.args.call.now).2)) c.self.view_is c.apply_naming.ensures.raised

pub returns-clause-files : goal.returns-clause-files
returns-clause-files g c =
    ok_same c.apply_naming.result _ _ (λ h now. value_applied c.self.inside c.args.self.now c.self.view_is c.args.desc now c.args.call.now c.apply_naming.new.self (h now)) c.apply_naming.ensures.objects

pub returns-clause-last : goal.returns-clause-last
returns-clause-last g c = subst (λ (v : Seen). OnErr c.apply_naming.result ((now : ℕ) → first (refusals_at v.files (number_of v c.args.desc) now c.args.call.now) ≡ None)) c.self.view_is c.apply_naming.ensures.last

pub invariant_of-self : goal.invariant_of-self
invariant_of-self g c =
    let v = c.self.inside.store in
    still_tables c.self.inside c.apply_naming.result c.apply_naming.new.self (objects_after v c.args.desc 0 c.args.call.now) c.self.invariant
    (ok_same c.apply_naming.result _ _ (λ h. h 0) c.apply_naming.ensures.objects) c.apply_naming.ensures.err
