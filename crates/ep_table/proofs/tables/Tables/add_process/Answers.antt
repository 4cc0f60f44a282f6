use Rattle.std.proofs.Common.{List, None, Option, Some, [], ap, arith, get_or, is_some, option_copied, sym, ◌++◌, ◌∙◌, ◌∷◌, ◌≡◌}
use Rattle.std.proofs.lemmas.Bool.{false≢true}
use Rattle.ep_table.specs.Processes.{items_of, lists, process_of}
use Rattle.ep_table.specs.declared.table.Table.{Table}
use Rattle.ep_table.specs.declared.words.Descriptor.{Descriptor}
use Rattle.ep_table.proofs.LookupLemmas.{there_is}
use Rattle.ep_table.proofs.ForkLemmas.{fits_forked, value_forked}
use Rattle.ep_table.proofs.UnnameLemmas.{names_within, table_live}
use Rattle.ep_table.proofs.ViewLemmas.{lists_at}
use Rattle.ep_table.proofs.tables.Tables.add_process.Goals as goal

pub add_names-requires-clause-live : goal.add_names-requires-clause-live
add_names-requires-clause-live g c =
    let at : Some c.in-Some.table.now ≡ get_or c.self.inside.processes.items c.args.pid.0 None = sym (ap option_copied c.in-Some.is) ∙ (c.table_at.ensures ∙ ap (λ xs. get_or xs c.args.pid.0 None) c.deref.ensures.value) in
    let u = c.deref-in-Some.result.now in
    let copied : u ≡ c.in-Some.table.now.slots.items = c.deref-in-Some.ensures.value ∙ c.in_ok-copy.ensures in
    let is : Some u ≡ get_or (lists c.self.inside.processes.items) c.args.pid.0 None = ap (λ (t : List (Option Descriptor)). Some t) copied ∙ (ap items_of at ∙ sym (lists_at c.self.inside.processes.items c.args.pid.0)) in
    table_live c.self.inside c.self.invariant c.args.pid.0 u is

pub add_names-requires-clause-named : goal.add_names-requires-clause-named
add_names-requires-clause-named g c = λ d some.
    let at : Some c.in-Some.table.now ≡ get_or c.self.inside.processes.items c.args.pid.0 None = sym (ap option_copied c.in-Some.is) ∙ (c.table_at.ensures ∙ ap (λ xs. get_or xs c.args.pid.0 None) c.deref.ensures.value) in
    let u = c.deref-in-Some.result.now in
    let copied : u ≡ c.in-Some.table.now.slots.items = c.deref-in-Some.ensures.value ∙ c.in_ok-copy.ensures in
    let is : Some u ≡ get_or (lists c.self.inside.processes.items) c.args.pid.0 None = ap (λ (t : List (Option Descriptor)). Some t) copied ∙ (ap items_of at ∙ sym (lists_at c.self.inside.processes.items c.args.pid.0)) in
    omega (arith, some, names_within c.self.inside c.self.invariant c.args.pid.0 u is d)

pub invariant_of-self-in-Some : goal.invariant_of-self-in-Some
invariant_of-self-in-Some g c =
    let at : Some c.in-Some.table.now ≡ get_or c.self.inside.processes.items c.args.pid.0 None = sym (ap option_copied c.in-Some.is) ∙ (c.table_at.ensures ∙ ap (λ xs. get_or xs c.args.pid.0 None) c.deref.ensures.value) in
    let u = c.deref-in-Some.result.now in
    let copied : u ≡ c.in-Some.table.now.slots.items = c.deref-in-Some.ensures.value ∙ c.in_ok-copy.ensures in
    let is : Some u ≡ get_or (lists c.self.inside.processes.items) c.args.pid.0 None = ap (λ (t : List (Option Descriptor)). Some t) copied ∙ (ap items_of at ∙ sym (lists_at c.self.inside.processes.items c.args.pid.0)) in
    let e : c.push_reserved.new.self.items ≡ c.self.inside.processes.items ++ Some c.in_ok-copy.copy ∷ [] = c.push_reserved.ensures.items ∙ ap (λ (xs : List (Option (Table g.row.A.Denot))). xs ++ Some c.in_ok-copy.copy ∷ []) c.in_ok-reserve.ensures.items in
    let h : items_of (Some c.in_ok-copy.copy) ≡ process_of c.self.inside.processes.items c.args.pid.0 = ap (λ (r : List (Option Descriptor)). Some r) c.in_ok-copy.ensures ∙ ap items_of at in
    let f = fits_forked c.self.inside c.args.self.now c.self.invariant c.self.view_is c.args.pid.0 u is c.push_reserved.new.self.items (Some c.in_ok-copy.copy) e h c.add_names.new.store c.add_names.ensures in
    record { live = f.live; counts = f.counts; living = f.living }

pub returns-in_ok-reserve-clause-ok : goal.returns-in_ok-reserve-clause-ok
returns-in_ok-reserve-clause-ok g c =
    let at : Some c.in-Some.table.now ≡ get_or c.self.inside.processes.items c.args.pid.0 None = sym (ap option_copied c.in-Some.is) ∙ (c.table_at.ensures ∙ ap (λ xs. get_or xs c.args.pid.0 None) c.deref.ensures.value) in
    let u = c.deref-in-Some.result.now in
    let copied : u ≡ c.in-Some.table.now.slots.items = c.deref-in-Some.ensures.value ∙ c.in_ok-copy.ensures in
    let is : Some u ≡ get_or (lists c.self.inside.processes.items) c.args.pid.0 None = ap (λ (t : List (Option Descriptor)). Some t) copied ∙ (ap items_of at ∙ sym (lists_at c.self.inside.processes.items c.args.pid.0)) in
    let e : c.push_reserved.new.self.items ≡ c.self.inside.processes.items ++ Some c.in_ok-copy.copy ∷ [] = c.push_reserved.ensures.items ∙ ap (λ (xs : List (Option (Table g.row.A.Denot))). xs ++ Some c.in_ok-copy.copy ∷ []) c.in_ok-reserve.ensures.items in
    let h : items_of (Some c.in_ok-copy.copy) ≡ process_of c.self.inside.processes.items c.args.pid.0 = ap (λ (r : List (Option Descriptor)). Some r) c.in_ok-copy.ensures ∙ ap items_of at in
    value_forked c.self.inside c.args.self.now c.self.invariant c.self.view_is c.args.pid.0 u is c.push_reserved.new.self.items (Some c.in_ok-copy.copy) e h c.add_names.new.store c.add_names.ensures

pub returns-in_default-clause-ok : goal.returns-in_default-clause-ok
returns-in_default-clause-ok g c =
    let e = there_is c.self.inside c.args.self.now c.args.pid.0 c.table_at.result c.self.view_is (c.table_at.ensures ∙ ap (λ xs. get_or xs c.args.pid.0 None) c.deref.ensures.value) in
    absurd (false≢true (sym (ap is_some c.in_default.is) ∙ (e ∙ c.requires.process)))
