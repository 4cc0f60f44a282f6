use Rattle.std.proofs.Common.{List, None, Option, Some, ap, arith, get_or, is_some, option_copied, refl, sym, ◌∙◌, ◌≡◌}
use Rattle.std.proofs.lemmas.Bool.{false≢true}
use Rattle.ep_table.specs.Processes.{items_of, kept_in, lists}
use Rattle.ep_table.specs.declared.words.Descriptor.{Descriptor}
use Rattle.ep_table.proofs.CreateLemmas.{lists_entered}
use Rattle.ep_table.proofs.LookupLemmas.{there_is}
use Rattle.ep_table.proofs.ViewLemmas.{lists_at}
use Rattle.ep_table.proofs.UnnameLemmas.{names_within, table_live}
use Rattle.ep_table.proofs.RenamesLemmas.{renames_exec}
use Rattle.ep_table.proofs.TableLemmas.{exec_times}
use Rattle.ep_table.proofs.tables.Tables.close_flagged.Goals as goal

pub drop_names-requires-clause-live : goal.drop_names-requires-clause-live
drop_names-requires-clause-live g c =
    let at : Some c.in-Some.table.now ≡ get_or c.self.inside.processes.items c.args.pid.0 None = sym (ap option_copied c.in-Some.is) ∙ (c.table_at.ensures ∙ ap (λ xs. get_or xs c.args.pid.0 None) c.deref.ensures.value) in
    let is : Some c.deref-in-Some.result.now ≡ get_or (lists c.self.inside.processes.items) c.args.pid.0 None = ap (λ (t : List (Option Descriptor)). Some t) c.deref-in-Some.ensures.value ∙ (ap items_of at ∙ sym (lists_at c.self.inside.processes.items c.args.pid.0)) in
    table_live c.self.inside c.self.invariant c.args.pid.0 c.deref-in-Some.result.now is

pub drop_names-requires-clause-named : goal.drop_names-requires-clause-named
drop_names-requires-clause-named g c = λ d.
    let at : Some c.in-Some.table.now ≡ get_or c.self.inside.processes.items c.args.pid.0 None = sym (ap option_copied c.in-Some.is) ∙ (c.table_at.ensures ∙ ap (λ xs. get_or xs c.args.pid.0 None) c.deref.ensures.value) in
    let is : Some c.deref-in-Some.result.now ≡ get_or (lists c.self.inside.processes.items) c.args.pid.0 None = ap (λ (t : List (Option Descriptor)). Some t) c.deref-in-Some.ensures.value ∙ (ap items_of at ∙ sym (lists_at c.self.inside.processes.items c.args.pid.0)) in
    omega (arith, names_within c.self.inside c.self.invariant c.args.pid.0 c.deref-in-Some.result.now is d, exec_times c.self.inside.store.keys d c.deref-in-Some.result.now)

pub invariant_of-self : goal.invariant_of-self
invariant_of-self g c =
    let at : Some c.in-Some.table.now ≡ get_or c.self.inside.processes.items c.args.pid.0 None = sym (ap option_copied c.in-Some.is) ∙ (c.table_at.ensures ∙ ap (λ xs. get_or xs c.args.pid.0 None) c.deref.ensures.value) in
    let is : Some c.deref-in-Some.result.now ≡ get_or (lists c.self.inside.processes.items) c.args.pid.0 None = ap (λ (t : List (Option Descriptor)). Some t) c.deref-in-Some.ensures.value ∙ (ap items_of at ∙ sym (lists_at c.self.inside.processes.items c.args.pid.0)) in
    let written = lists_entered kept_in c.self.inside.processes.items c.self.inside.processes.items c.close_flagged.new.processes.items c.args.pid.0 refl c.close_flagged.ensures in
    let f = (renames_exec c.self.inside c.args.self.now c.self.invariant c.self.view_is c.args.pid.0 c.requires (lists c.close_flagged.new.processes.items) c.drop_names.new.store c.deref-in-Some.result.now is c.drop_names.ensures written).fits in
    record { live = f.live; counts = f.counts; living = f.living }

pub returns-in-Some : goal.returns-in-Some
returns-in-Some g c =
    let at : Some c.in-Some.table.now ≡ get_or c.self.inside.processes.items c.args.pid.0 None = sym (ap option_copied c.in-Some.is) ∙ (c.table_at.ensures ∙ ap (λ xs. get_or xs c.args.pid.0 None) c.deref.ensures.value) in
    let is : Some c.deref-in-Some.result.now ≡ get_or (lists c.self.inside.processes.items) c.args.pid.0 None = ap (λ (t : List (Option Descriptor)). Some t) c.deref-in-Some.ensures.value ∙ (ap items_of at ∙ sym (lists_at c.self.inside.processes.items c.args.pid.0)) in
    let written = lists_entered kept_in c.self.inside.processes.items c.self.inside.processes.items c.close_flagged.new.processes.items c.args.pid.0 refl c.close_flagged.ensures in
    (renames_exec c.self.inside c.args.self.now c.self.invariant c.self.view_is c.args.pid.0 c.requires (lists c.close_flagged.new.processes.items) c.drop_names.new.store c.deref-in-Some.result.now is c.drop_names.ensures written).value

pub returns-in_default : goal.returns-in_default
returns-in_default g c =
    let e = there_is c.self.inside c.args.self.now c.args.pid.0 c.table_at.result c.self.view_is (c.table_at.ensures ∙ ap (λ xs. get_or xs c.args.pid.0 None) c.deref.ensures.value) in
    absurd (false≢true (sym (ap is_some c.in_default.is) ∙ (e ∙ c.requires)))
