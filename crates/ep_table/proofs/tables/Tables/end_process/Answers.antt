use Rattle.std.proofs.Common.{List, None, Option, Some, ap, arith, get_or, is_some, option_copied, sym, subst, ◌∙◌, ◌≡◌}
use Rattle.std.proofs.lemmas.Bool.{false≢true}
use Rattle.ep_table.specs.Counting.{Lowers, numbers}
use Rattle.ep_table.specs.Processes.{items_of, lists}
use Rattle.ep_table.specs.Value.{Seen, times}
use Rattle.ep_table.specs.declared.words.Descriptor.{Descriptor}
use Rattle.ep_table.proofs.LookupLemmas.{there_is}
use Rattle.ep_table.proofs.ViewLemmas.{lists_at}
use Rattle.ep_machine.specs.Tables.{exit}
use Rattle.ep_table.proofs.UnnameLemmas.{fits_ended, lives_before, names_within, table_live, tables_ended}
use Rattle.ep_table.proofs.TableLemmas.{exit_same}
use Rattle.ep_table.proofs.tables.Tables.end_process.Goals as goal

pub drop_names-requires-clause-live : goal.drop_names-requires-clause-live
drop_names-requires-clause-live g c =
    let at : Some c.in-Some.table.now ≡ get_or c.self.inside.processes.items c.args.pid.0 None = sym (ap option_copied c.in-Some.is) ∙ (c.table_at.ensures ∙ ap (λ xs. get_or xs c.args.pid.0 None) c.deref.ensures.value) in
    let is : Some c.deref-in-Some.result.now ≡ get_or (lists c.self.inside.processes.items) c.args.pid.0 None = ap (λ (t : List (Option Descriptor)). Some t) c.deref-in-Some.ensures.value ∙ (ap items_of at ∙ sym (lists_at c.self.inside.processes.items c.args.pid.0)) in
    table_live c.self.inside c.self.invariant c.args.pid.0 c.deref-in-Some.result.now is

pub drop_names-requires-clause-named : goal.drop_names-requires-clause-named
drop_names-requires-clause-named g c = λ d.
    let at : Some c.in-Some.table.now ≡ get_or c.self.inside.processes.items c.args.pid.0 None = sym (ap option_copied c.in-Some.is) ∙ (c.table_at.ensures ∙ ap (λ xs. get_or xs c.args.pid.0 None) c.deref.ensures.value) in
    let is : Some c.deref-in-Some.result.now ≡ get_or (lists c.self.inside.processes.items) c.args.pid.0 None = ap (λ (t : List (Option Descriptor)). Some t) c.deref-in-Some.ensures.value ∙ (ap items_of at ∙ sym (lists_at c.self.inside.processes.items c.args.pid.0)) in
    let t = c.deref-in-Some.result.now in
    let keys = c.self.inside.store.keys in
    omega (arith, names_within c.self.inside c.self.invariant c.args.pid.0 t is d, ap (λ (u : List (Option Descriptor)). times d (numbers keys u)) (exit_same keys t))

pub overflow_sub-self : goal.overflow_sub-self
overflow_sub-self g c =
    let at : Some c.in-Some.table.now ≡ get_or c.self.inside.processes.items c.args.pid.0 None = sym (ap option_copied c.in-Some.is) ∙ (c.table_at.ensures ∙ ap (λ xs. get_or xs c.args.pid.0 None) c.deref.ensures.value) in
    let is : Some c.deref-in-Some.result.now ≡ get_or (lists c.self.inside.processes.items) c.args.pid.0 None = ap (λ (t : List (Option Descriptor)). Some t) c.deref-in-Some.ensures.value ∙ (ap items_of at ∙ sym (lists_at c.self.inside.processes.items c.args.pid.0)) in
    omega (arith, lives_before c.self.inside c.self.invariant c.args.pid.0 c.deref-in-Some.result.now is)

pub invariant_of-self : goal.invariant_of-self
invariant_of-self g c =
    let at : Some c.in-Some.table.now ≡ get_or c.self.inside.processes.items c.args.pid.0 None = sym (ap option_copied c.in-Some.is) ∙ (c.table_at.ensures ∙ ap (λ xs. get_or xs c.args.pid.0 None) c.deref.ensures.value) in
    let is : Some c.deref-in-Some.result.now ≡ get_or (lists c.self.inside.processes.items) c.args.pid.0 None = ap (λ (t : List (Option Descriptor)). Some t) c.deref-in-Some.ensures.value ∙ (ap items_of at ∙ sym (lists_at c.self.inside.processes.items c.args.pid.0)) in
    let t = c.deref-in-Some.result.now in
    let keys = c.self.inside.store.keys in
    let l = subst (λ (u : List (Option Descriptor)). Lowers c.self.inside.store c.drop_names.new.store (numbers keys u)) (exit_same keys t) c.drop_names.ensures in
    let f = fits_ended c.self.inside c.self.invariant c.args.pid.0 t is c.drop_names.new.store l (lists c.end.new.processes.items) c.end.ensures in
    record { live = f.live; counts = f.counts; living = f.living }

pub returns-in-Some : goal.returns-in-Some
returns-in-Some g c =
    let at : Some c.in-Some.table.now ≡ get_or c.self.inside.processes.items c.args.pid.0 None = sym (ap option_copied c.in-Some.is) ∙ (c.table_at.ensures ∙ ap (λ xs. get_or xs c.args.pid.0 None) c.deref.ensures.value) in
    let is : Some c.deref-in-Some.result.now ≡ get_or (lists c.self.inside.processes.items) c.args.pid.0 None = ap (λ (t : List (Option Descriptor)). Some t) c.deref-in-Some.ensures.value ∙ (ap items_of at ∙ sym (lists_at c.self.inside.processes.items c.args.pid.0)) in
    let k = c.self.inside in
    let t = c.deref-in-Some.result.now in
    let s = c.drop_names.new.store in
    let l = subst (λ (u : List (Option Descriptor)). Lowers k.store s (numbers k.store.keys u)) (exit_same k.store.keys t) c.drop_names.ensures in
    let e = tables_ended k c.self.invariant c.args.pid.0 t is s l (lists c.end.new.processes.items) c.end.ensures in
    let q = l.same in
    (λ i. record { limits = k.limits; files = record { tables = e i; descriptions = (q i).descriptions; objects = (q i).objects }; keys = (q i).keys; holds = (q i).holds; dying = s.dying; losses = (q i).losses })
    ∙ ap (λ (w : Seen). record w { files = exit w.files c.args.pid.0; dying = s.dying }) c.self.view_is

pub returns-in_default : goal.returns-in_default
returns-in_default g c =
    let e = there_is c.self.inside c.args.self.now c.args.pid.0 c.table_at.result c.self.view_is (c.table_at.ensures ∙ ap (λ xs. get_or xs c.args.pid.0 None) c.deref.ensures.value) in
    absurd (false≢true (sym (ap is_some c.in_default.is) ∙ (e ∙ c.requires)))
