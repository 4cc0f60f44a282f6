use Rattle.std.proofs.Common.{ap, refl, sym, ℕ, ◌∙◌}
use Rattle.ep_base.specs.declared.answer.Answer.TheVariants.{Num}
use Rattle.ep_machine.specs.Effect.{first}
use Rattle.ep_machine.specs.FilesCalls.{one_of}
use Rattle.ep_machine.specs.Tables.{create_refusals}
use Rattle.ep_table.proofs.DoesLemmas.{does_done, does_refused, succeeds_one}
use Rattle.ep_table.proofs.LookupLemmas.{one_is}
use Rattle.ep_table.proofs.ProcessesLemmas.{on_err}
use Rattle.ep_table.proofs.ToldLemmas.{nothing_told, refused_untold}
use Rattle.ep_table.proofs.tables.Tables.create.Goals as goal

pub returns-in-Some-clause-ok : goal.returns-in-Some-clause-ok
returns-in-Some-clause-ok g c =
    let v = c.args.self.now in
    let p = c.args.pid.0 in
    let n = one_is c.self.inside v p c.lowest-number.result c.deref.result.now c.self.view_is c.deref.ensures.value c.lowest-number.ensures in
    let r = sym (c.refuses.ensures.first ∙ ap (λ (m : ℕ). first (create_refusals v.limits v.files m 1)) n) in
    does_refused (one_of v.limits v.files p c.args.object c.args.cloexec) v c.in-Some.errno (r ∙ c.in-Some.is)

pub returns-clause-ok : goal.returns-clause-ok
returns-clause-ok g c =
    let v = c.args.self.now in
    let p = c.args.pid.0 in
    let n = one_is c.self.inside v p c.lowest-number.result c.deref.result.now c.self.view_is c.deref.ensures.value c.lowest-number.ensures in
    let r = sym (c.refuses.ensures.first ∙ ap (λ (m : ℕ). first (create_refusals v.limits v.files m 1)) n) in
    does_done (one_of v.limits v.files p c.args.object c.args.cloexec) _ v c.add_one.new.self (r ∙ c.in_default.is)
    (succeeds_one v c.add_one.new.self p c.args.object c.args.cloexec _ (ap Num n) c.in_ok-add_one.ensures.ok)

pub returns-in_err-add_one-clause-last : goal.returns-in_err-add_one-clause-last
returns-in_err-add_one-clause-last g c =
    let v = c.args.self.now in
    let n = one_is c.self.inside v c.args.pid.0 c.lowest-number.result c.deref.result.now c.self.view_is c.deref.ensures.value c.lowest-number.ensures in
    on_err c.from_residual.result _ (sym (c.refuses.ensures.first ∙ ap (λ (m : ℕ). first (create_refusals v.limits v.files m 1)) n) ∙ c.in_default.is)

pub returns-in-Some-clause-told : goal.returns-in-Some-clause-told
returns-in-Some-clause-told g c =
    let v = c.args.self.now in
    let p = c.args.pid.0 in
    let n = one_is c.self.inside v p c.lowest-number.result c.deref.result.now c.self.view_is c.deref.ensures.value c.lowest-number.ensures in
    let r = sym (c.refuses.ensures.first ∙ ap (λ (m : ℕ). first (create_refusals v.limits v.files m 1)) n) in
    refused_untold (one_of v.limits v.files p c.args.object c.args.cloexec) v c.in-Some.errno (r ∙ c.in-Some.is)

pub returns-clause-told : goal.returns-clause-told
returns-clause-told g c =
    let v = c.args.self.now in
    nothing_told (one_of v.limits v.files c.args.pid.0 c.args.object c.args.cloexec) c.add_one.new.self refl c.in_ok-add_one.ensures.ok.losses
