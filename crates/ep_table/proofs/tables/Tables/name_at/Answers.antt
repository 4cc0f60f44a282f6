use Rattle.std.proofs.Common.{IsSome, None, Option, Some, [], ap, arith, false, get_or, refl, subst, sym, true, unwrap_or, ℕ, ◌+◌, ◌<◌, ◌∙◌, ◌≡◌}
use Rattle.ep_machine.specs.Deaths.{named_in_tables}
use Rattle.ep_machine.specs.Files.{description_in, numbers_of, table_of}
use Rattle.ep_machine.specs.Lists.{is_among, place_at}
use Rattle.ep_machine.specs.Tables.{slot, with_table}
use Rattle.ep_table.specs.Processes.{Process, lists, process_of, put_at, slots_of}
use Rattle.ep_table.specs.Value.{Seen, Things, count_at, more_at, number_at, number_of, number_under, thing_number}
use Rattle.ep_table.specs.View.{IsTables, LiveSlot, slot_in, value_of}
use Rattle.ep_table.specs.declared.tables.Tables.TheInside.{Inside}
use Rattle.ep_table.specs.declared.words.Descriptor.{Descriptor}
use Rattle.ep_table.proofs.TimesLemmas.{count_more}
use Rattle.ep_table.proofs.CreateLemmas.{lists_entered}
use Rattle.ep_table.proofs.UnnameLemmas.{named_counts, slot_counts}
use Rattle.ep_table.proofs.RenamesLemmas.{old_slot, renames_free, renames_replaced}
use Rattle.ep_table.proofs.ViewLemmas.{live_found}
use Rattle.ep_table.proofs.tables.Tables.name_at.Goals as goal

live_replaced : {A : Type 0} (k : Inside A) → IsTables k → (p i : ℕ) (r : Descriptor) → Some r ≡ get_or (slots_of (process_of k.processes.items p)) i None → IsSome (number_at k.store.keys r.description)
live_replaced k inv p i r e = subst (λ (o : Option Descriptor). LiveSlot k.store.keys o) (sym e) (live_found k.store.keys k.processes.items p i inv.live)

more_replaced : {A : Type 0} (k : Inside A) (inv : IsTables k) (p : ℕ) → IsSome (get_or (value_of k).files.tables p None) → (i n : ℕ) → 0 < count_at k.store.names n → (a : Things) (r : Descriptor)
    → get_or (unwrap_or (get_or (value_of k).files.tables p None) []) i None ≡ slot_in k.store.keys (Some r) → IsSome (number_at k.store.keys r.description) → a ≡ record k.store { names = more_at k.store.names n; named = k.store.named + 1 } → 0 < count_at a.names (thing_number a r.description)
more_replaced k inv p is i n some a r at live e =
    let m = thing_number k.store r.description in
    let c : 0 < count_at k.store.names m = slot_counts k inv p is i m (ap description_in at) in
    subst (λ (w : Things). 0 < count_at w.names (thing_number w r.description)) (sym e) (omega (arith, c, count_more k.store.names n m some))

pub add_name-requires-clause-named : goal.add_name-requires-clause-named
add_name-requires-clause-named g c =
    named_counts c.self.inside c.self.invariant c.args.pid.0 (thing_number c.self.inside.store c.args.description)
    (subst (λ (v : Seen). is_among (named_in_tables v.files.tables) (number_of v c.args.description) ≡ true) (sym c.self.view_is) c.requires.named)

pub drop_name-requires-clause-live : goal.drop_name-requires-clause-live
drop_name-requires-clause-live g c =
    let found : Some c.in-Some.replaced ≡ get_or (slots_of (process_of c.self.inside.processes.items c.args.pid.0)) c.args.number None = sym c.in-Some.is ∙ (c.descriptor_at-replaced.ensures ∙ ap (λ xs. get_or (slots_of (process_of xs c.args.pid.0)) c.args.number None) c.deref.ensures.value) in
    subst (λ (w : Things). IsSome (number_at w.keys c.in-Some.replaced.description)) (sym c.add_name.ensures) (live_replaced c.self.inside c.self.invariant c.args.pid.0 c.args.number c.in-Some.replaced found)

pub drop_name-requires-clause-named : goal.drop_name-requires-clause-named
drop_name-requires-clause-named g c =
    let found : Some c.in-Some.replaced ≡ get_or (slots_of (process_of c.self.inside.processes.items c.args.pid.0)) c.args.number None = sym c.in-Some.is ∙ (c.descriptor_at-replaced.ensures ∙ ap (λ xs. get_or (slots_of (process_of xs c.args.pid.0)) c.args.number None) c.deref.ensures.value) in
    let k = c.self.inside in
    let v = c.args.self.now in
    let x : Descriptor = record { description = c.args.description; cloexec = false } in
    let live = subst (λ (w : Seen). IsSome (number_under w c.args.description)) (sym c.self.view_is) c.requires.live in
    let some = named_counts k c.self.invariant c.args.pid.0 (thing_number k.store c.args.description) (subst (λ (w : Seen). is_among (named_in_tables w.files.tables) (number_of w c.args.description) ≡ true) (sym c.self.view_is) c.requires.named) in
    let written = lists_entered (λ (p : Process). put_at p c.args.number x) k.processes.items k.processes.items c.put.new.processes.items c.args.pid.0 refl c.in_ok-put.ensures.ok in
    let at = old_slot k v c.self.invariant c.self.view_is c.args.pid.0 c.requires.process (lists c.put.new.processes.items) c.add_name.new.self c.args.number (Some c.in-Some.replaced) found in
    more_replaced k c.self.invariant c.args.pid.0 (subst (λ (w : Seen). IsSome (table_of w.files c.args.pid.0)) (sym c.self.view_is) c.requires.process) c.args.number (thing_number k.store c.args.description) some c.add_name.new.self c.in-Some.replaced at (live_replaced k c.self.invariant c.args.pid.0 c.args.number c.in-Some.replaced found) c.add_name.ensures

pub invariant_of-self-in-Some : goal.invariant_of-self-in-Some
invariant_of-self-in-Some g c =
    let found : Some c.in-Some.replaced ≡ get_or (slots_of (process_of c.self.inside.processes.items c.args.pid.0)) c.args.number None = sym c.in-Some.is ∙ (c.descriptor_at-replaced.ensures ∙ ap (λ xs. get_or (slots_of (process_of xs c.args.pid.0)) c.args.number None) c.deref.ensures.value) in
    let k = c.self.inside in
    let v = c.args.self.now in
    let x : Descriptor = record { description = c.args.description; cloexec = false } in
    let live = subst (λ (w : Seen). IsSome (number_under w c.args.description)) (sym c.self.view_is) c.requires.live in
    let some = named_counts k c.self.invariant c.args.pid.0 (thing_number k.store c.args.description) (subst (λ (w : Seen). is_among (named_in_tables w.files.tables) (number_of w c.args.description) ≡ true) (sym c.self.view_is) c.requires.named) in
    let written = lists_entered (λ (p : Process). put_at p c.args.number x) k.processes.items k.processes.items c.put.new.processes.items c.args.pid.0 refl c.in_ok-put.ensures.ok in
    let at = old_slot k v c.self.invariant c.self.view_is c.args.pid.0 c.requires.process (lists c.put.new.processes.items) c.drop_name.new.self c.args.number (Some c.in-Some.replaced) found in
    let more = more_replaced k c.self.invariant c.args.pid.0 (subst (λ (w : Seen). IsSome (table_of w.files c.args.pid.0)) (sym c.self.view_is) c.requires.process) c.args.number (thing_number k.store c.args.description) some c.add_name.new.self c.in-Some.replaced at (live_replaced k c.self.invariant c.args.pid.0 c.args.number c.in-Some.replaced found) c.add_name.ensures in
    let r = renames_replaced k v c.self.invariant c.self.view_is c.args.pid.0 c.requires.process (lists c.put.new.processes.items) c.drop_name.new.self c.args.number x live some written c.add_name.new.self c.add_name.ensures c.in-Some.replaced at more c.drop_name.ensures in
    record { live = r.fits.live; counts = r.fits.counts; living = r.fits.living }

pub invariant_of-self-in_default : goal.invariant_of-self-in_default
invariant_of-self-in_default g c =
    let found : None ≡ get_or (slots_of (process_of c.self.inside.processes.items c.args.pid.0)) c.args.number None = sym c.in_default.is ∙ (c.descriptor_at-replaced.ensures ∙ ap (λ xs. get_or (slots_of (process_of xs c.args.pid.0)) c.args.number None) c.deref.ensures.value) in
    let k = c.self.inside in
    let v = c.args.self.now in
    let x : Descriptor = record { description = c.args.description; cloexec = false } in
    let live = subst (λ (w : Seen). IsSome (number_under w c.args.description)) (sym c.self.view_is) c.requires.live in
    let some = named_counts k c.self.invariant c.args.pid.0 (thing_number k.store c.args.description) (subst (λ (w : Seen). is_among (named_in_tables w.files.tables) (number_of w c.args.description) ≡ true) (sym c.self.view_is) c.requires.named) in
    let written = lists_entered (λ (p : Process). put_at p c.args.number x) k.processes.items k.processes.items c.put.new.processes.items c.args.pid.0 refl c.in_ok-put.ensures.ok in
    let at = old_slot k v c.self.invariant c.self.view_is c.args.pid.0 c.requires.process (lists c.put.new.processes.items) c.add_name.new.self c.args.number None found in
    let r = renames_free k v c.self.invariant c.self.view_is c.args.pid.0 c.requires.process (lists c.put.new.processes.items) c.add_name.new.self c.args.number x live some written c.add_name.new.self c.add_name.ensures at refl in
    record { live = r.fits.live; counts = r.fits.counts; living = r.fits.living }

pub returns-in-Some-clause-ok : goal.returns-in-Some-clause-ok
returns-in-Some-clause-ok g c =
    let found : Some c.in-Some.replaced ≡ get_or (slots_of (process_of c.self.inside.processes.items c.args.pid.0)) c.args.number None = sym c.in-Some.is ∙ (c.descriptor_at-replaced.ensures ∙ ap (λ xs. get_or (slots_of (process_of xs c.args.pid.0)) c.args.number None) c.deref.ensures.value) in
    let k = c.self.inside in
    let v = c.args.self.now in
    let x : Descriptor = record { description = c.args.description; cloexec = false } in
    let live = subst (λ (w : Seen). IsSome (number_under w c.args.description)) (sym c.self.view_is) c.requires.live in
    let some = named_counts k c.self.invariant c.args.pid.0 (thing_number k.store c.args.description) (subst (λ (w : Seen). is_among (named_in_tables w.files.tables) (number_of w c.args.description) ≡ true) (sym c.self.view_is) c.requires.named) in
    let written = lists_entered (λ (p : Process). put_at p c.args.number x) k.processes.items k.processes.items c.put.new.processes.items c.args.pid.0 refl c.in_ok-put.ensures.ok in
    let at = old_slot k v c.self.invariant c.self.view_is c.args.pid.0 c.requires.process (lists c.put.new.processes.items) c.drop_name.new.self c.args.number (Some c.in-Some.replaced) found in
    let more = more_replaced k c.self.invariant c.args.pid.0 (subst (λ (w : Seen). IsSome (table_of w.files c.args.pid.0)) (sym c.self.view_is) c.requires.process) c.args.number (thing_number k.store c.args.description) some c.add_name.new.self c.in-Some.replaced at (live_replaced k c.self.invariant c.args.pid.0 c.args.number c.in-Some.replaced found) c.add_name.ensures in
    let r = renames_replaced k v c.self.invariant c.self.view_is c.args.pid.0 c.requires.process (lists c.put.new.processes.items) c.drop_name.new.self c.args.number x live some written c.add_name.new.self c.add_name.ensures c.in-Some.replaced at more c.drop_name.ensures in
    r.value ∙ (λ i. record v { files = with_table v.files c.args.pid.0 (place_at (numbers_of v.files c.args.pid.0) c.args.number (slot (number_of (c.self.view_is i) c.args.description) false)); dying = c.drop_name.new.self.dying })

pub returns-in_default-clause-ok : goal.returns-in_default-clause-ok
returns-in_default-clause-ok g c =
    let found : None ≡ get_or (slots_of (process_of c.self.inside.processes.items c.args.pid.0)) c.args.number None = sym c.in_default.is ∙ (c.descriptor_at-replaced.ensures ∙ ap (λ xs. get_or (slots_of (process_of xs c.args.pid.0)) c.args.number None) c.deref.ensures.value) in
    let k = c.self.inside in
    let v = c.args.self.now in
    let x : Descriptor = record { description = c.args.description; cloexec = false } in
    let live = subst (λ (w : Seen). IsSome (number_under w c.args.description)) (sym c.self.view_is) c.requires.live in
    let some = named_counts k c.self.invariant c.args.pid.0 (thing_number k.store c.args.description) (subst (λ (w : Seen). is_among (named_in_tables w.files.tables) (number_of w c.args.description) ≡ true) (sym c.self.view_is) c.requires.named) in
    let written = lists_entered (λ (p : Process). put_at p c.args.number x) k.processes.items k.processes.items c.put.new.processes.items c.args.pid.0 refl c.in_ok-put.ensures.ok in
    let at = old_slot k v c.self.invariant c.self.view_is c.args.pid.0 c.requires.process (lists c.put.new.processes.items) c.add_name.new.self c.args.number None found in
    let r = renames_free k v c.self.invariant c.self.view_is c.args.pid.0 c.requires.process (lists c.put.new.processes.items) c.add_name.new.self c.args.number x live some written c.add_name.new.self c.add_name.ensures at refl in
    r.value ∙ (λ i. record v { files = with_table v.files c.args.pid.0 (place_at (numbers_of v.files c.args.pid.0) c.args.number (slot (number_of (c.self.view_is i) c.args.description) false)); dying = c.add_name.new.self.dying })
