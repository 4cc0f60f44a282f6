use Rattle.std.proofs.Common.{None, Option, ap, get_or, sym, ◌∙◌}
use Rattle.ep_table.specs.Processes.{process_of, slots_of}
use Rattle.ep_table.specs.Value.{number_found}
use Rattle.ep_base.specs.declared.ids.DescId.{DescId}
use Rattle.ep_table.proofs.LookupLemmas.{live_is, under_is}
use Rattle.ep_table.proofs.tables.Tables.lookup.Goals as goal

pub returns-in_err-descriptor-clause-number : goal.returns-in_err-descriptor-clause-number
returns-in_err-descriptor-clause-number g c =
    let found = sym c.in_err-descriptor.was ∙ (c.descriptor_at.ensures ∙ ap (λ xs. get_or (slots_of (process_of xs c.args.pid.0)) c.in_ok-number.number None) c.deref.ensures.value) in
    ap (λ (o : Option DescId). number_found c.args.self.now o) c.from_residual-in_err-descriptor.ensures
    ∙ under_is c.self.inside c.args.self.now c.args.pid.0 c.in_ok-number.number c.args.fd.0 None c.self.invariant c.self.view_is (sym c.index_of.ensures ∙ c.in_ok-number.was) found

pub returns-clause-number : goal.returns-clause-number
returns-clause-number g c =
    let found = sym c.in_ok-descriptor.was ∙ (c.descriptor_at.ensures ∙ ap (λ xs. get_or (slots_of (process_of xs c.args.pid.0)) c.in_ok-number.number None) c.deref.ensures.value) in
    under_is c.self.inside c.args.self.now c.args.pid.0 c.in_ok-number.number c.args.fd.0 _ c.self.invariant c.self.view_is (sym c.index_of.ensures ∙ c.in_ok-number.was) found

pub returns-clause-live : goal.returns-clause-live
returns-clause-live g c =
    let found = sym c.in_ok-descriptor.was ∙ (c.descriptor_at.ensures ∙ ap (λ xs. get_or (slots_of (process_of xs c.args.pid.0)) c.in_ok-number.number None) c.deref.ensures.value) in
    live_is c.self.inside c.args.self.now c.args.pid.0 c.in_ok-number.number c.in_ok-descriptor.descriptor c.self.invariant c.self.view_is found
