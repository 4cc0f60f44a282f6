use Rattle.std.proofs.Common.{[], ap, arith, refl, ◌∙◌}
use Rattle.ep_base.specs.declared.errno.Errno.TheVariants.{Emfile}
use Rattle.ep_machine.specs.FilesCalls.{dup_of}
use Rattle.ep_table.specs.Value.{Seen, number_of}
use Rattle.ep_table.proofs.DoesLemmas.{does_done, does_refused, dup_rest, found_is, free_is, full_is, succeeds_dup}
use Rattle.ep_table.proofs.LookupLemmas.{one_is}
use Rattle.ep_table.proofs.ProcessesLemmas.{on_err}
use Rattle.ep_table.proofs.UnnameLemmas.{under_named}
use Rattle.ep_table.proofs.ToldLemmas.{nothing_told, refused_untold}
use Rattle.ep_table.proofs.tables.Tables.dup.Goals as goal

pub add_name-requires-clause-named : goal.add_name-requires-clause-named
add_name-requires-clause-named g c =
    let v = c.args.self.now in
    under_named v.files c.args.pid.0 (number_of v c.in-Some.description) c.args.fd.0 (found_is v c.args.pid.0 c.args.fd.0 c.in-Some.description c.in-Some.ensures.number c.in-Some.ensures.live)

pub returns-then-descriptors-free-clause-ok : goal.returns-then-descriptors-free-clause-ok
returns-then-descriptors-free-clause-ok g c =
    let v = c.args.self.now in
    let p = c.args.pid.0 in
    let n = one_is c.self.inside v p c.lowest-free.result c.deref.result.now c.self.view_is c.deref.ensures.value c.lowest-free.ensures in
    let x = found_is v p c.args.fd.0 c.in-Some.description c.in-Some.ensures.number c.in-Some.ensures.live in
    let f = full_is v.limits.descriptors c.lowest-free.result (omega (arith, c.descriptors.ensures.value, ap (λ (w : Seen). w.limits.descriptors) c.self.view_is)) in
    does_refused (dup_of v.limits v.files p c.args.fd.0) v Emfile (dup_rest v p c.lowest-free.result (number_of v c.in-Some.description) c.args.fd.0 x n ∙ f)

pub returns-clause-ok : goal.returns-clause-ok
returns-clause-ok g c =
    let v = c.args.self.now in
    let p = c.args.pid.0 in
    let n = one_is c.self.inside v p c.lowest-free.result c.deref.result.now c.self.view_is c.deref.ensures.value c.lowest-free.ensures in
    let x = found_is v p c.args.fd.0 c.in-Some.description c.in-Some.ensures.number c.in-Some.ensures.live in
    let f = free_is v.limits.descriptors c.lowest-free.result (omega (arith, c.descriptors.ensures.value, ap (λ (w : Seen). w.limits.descriptors) c.self.view_is)) in
    does_done (dup_of v.limits v.files p c.args.fd.0) _ v c.forget_losses.new.self
    (dup_rest v p c.lowest-free.result (number_of v c.in-Some.description) c.args.fd.0 x n ∙ f)
    (succeeds_dup v c.forget_losses.new.self p c.lowest-free.result (number_of v c.in-Some.description) c.args.fd.0 x n (c.forget_losses.ensures ∙ ap (λ (w : Seen). record w { losses = [] }) c.in_ok-add_name.ensures.ok))

pub returns-in_err-add_name-clause-last : goal.returns-in_err-add_name-clause-last
returns-in_err-add_name-clause-last g c =
    let v = c.args.self.now in
    let p = c.args.pid.0 in
    let n = one_is c.self.inside v p c.lowest-free.result c.deref.result.now c.self.view_is c.deref.ensures.value c.lowest-free.ensures in
    let x = found_is v p c.args.fd.0 c.in-Some.description c.in-Some.ensures.number c.in-Some.ensures.live in
    let f = free_is v.limits.descriptors c.lowest-free.result (omega (arith, c.descriptors.ensures.value, ap (λ (w : Seen). w.limits.descriptors) c.self.view_is)) in
    on_err c.from_residual.result _ (dup_rest v p c.lowest-free.result (number_of v c.in-Some.description) c.args.fd.0 x n ∙ f)

pub returns-then-descriptors-free-clause-told : goal.returns-then-descriptors-free-clause-told
returns-then-descriptors-free-clause-told g c =
    let v = c.args.self.now in
    let p = c.args.pid.0 in
    let n = one_is c.self.inside v p c.lowest-free.result c.deref.result.now c.self.view_is c.deref.ensures.value c.lowest-free.ensures in
    let x = found_is v p c.args.fd.0 c.in-Some.description c.in-Some.ensures.number c.in-Some.ensures.live in
    let f = full_is v.limits.descriptors c.lowest-free.result (omega (arith, c.descriptors.ensures.value, ap (λ (w : Seen). w.limits.descriptors) c.self.view_is)) in
    refused_untold (dup_of v.limits v.files p c.args.fd.0) v Emfile (dup_rest v p c.lowest-free.result (number_of v c.in-Some.description) c.args.fd.0 x n ∙ f)

pub returns-clause-told : goal.returns-clause-told
returns-clause-told g c =
    let v = c.args.self.now in
    nothing_told (dup_of v.limits v.files c.args.pid.0 c.args.fd.0) c.forget_losses.new.self refl (ap (λ (w : Seen). w.losses) c.forget_losses.ensures)
