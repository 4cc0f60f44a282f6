use Rattle.std.proofs.Common.{List, ap, arith, filter, length, subst, ℕ, ◌∙◌, ◌≡◌}
use Rattle.std.proofs.lemmas.List.Elements.{All-filter}
use Rattle.ep_base.specs.declared.ids.DescId.{DescId}
use Rattle.ep_base.specs.declared.ids.EntryId.{EntryId}
use Rattle.ep_calls.specs.Parts.{Parts}
use Rattle.ep_calls.specs.Stands.{IsLinked}
use Rattle.ep_interest.specs.Registrations.{is_of}
use Rattle.ep_interest.specs.declared.entry.Entry.{Entry}
use Rattle.ep_kernel.proofs.AskedLemmas.{knows_forgotten}
use Rattle.ep_kernel.proofs.WatchLemmas.{Lays, entries_of, filter_few, first_linked, lays_all, lays_count, lays_first, lays_more}
use Rattle.ep_kernel.proofs.watches.tell_each.Goals as goal
use Rattle.ep_kernel.specs.declared.asked.Asked.{Asked}
use Rattle.ep_kernel.specs.declared.watches.Watch.{Watch}

pub loop-entry-init : goal.loop-entry-init
loop-entry-init c =
    let p = c.args.parts.now in
    let of = filter (is_of c.args.instance) p.interest.entries in
    let is : entries_of c.into_iter-entry-iterator.result ≡ of =
    ap entries_of c.into_iter-entry-iterator.ensures.into_iter_gives
    ∙ (c.entries-entry-items.ensures.entries ∙ ap (λ (q : Parts). filter (is_of c.args.instance) q.interest.entries) c.parts.view_is) in
    lays_first p of c.args.room.now c.forget.new.self c.into_iter-entry-iterator.result is
    (All-filter (is_of c.args.instance) (IsLinked p.tables.keys) p.interest.entries c.known.ensures.coherent.linked)
    (knows_forgotten p c.args.asked.now.hopes c.forget.new.self c.requires c.forget.ensures.hopes c.forget.ensures.ready c.forget.ensures.idle)

-- what is told so far, and what is left
abbrev Left : Parts → DescId → List Watch → Asked → ℕ → List Watch → List (EntryId × Entry) → Type 0
Left p i before asked count room rest = Lays p (filter (is_of i) p.interest.entries) before asked count room rest

pub tell-requires-clause-linked : goal.tell-requires-clause-linked
tell-requires-clause-linked c =
    let p = c.args.parts.now in
    first_linked p (filter (is_of c.args.instance) p.interest.entries) c.args.room.now c.loop-entry.asked c.loop-entry.count c.loop-entry.room c.in-Some.field-0-0 c.in-Some.entry.now c.next.new.self (subst (Left p c.args.instance c.args.room.now c.loop-entry.asked c.loop-entry.count c.loop-entry.room) c.in-Some.ensures.steps c.loop-entry.invariant)

pub overflow_add-count : goal.overflow_add-count
overflow_add-count c =
    let p = c.args.parts.now in
    let left = (subst (Left p c.args.instance c.args.room.now c.loop-entry.asked c.loop-entry.count c.loop-entry.room) c.in-Some.ensures.steps c.loop-entry.invariant).left in
    let few = filter_few (is_of c.args.instance) p.interest.entries in
    let most = c.count-most.ensures in
    let same = ap (λ (q : Parts). length q.interest.entries) c.parts.view_is in
    omega (arith, left, few, most, same, c.count-most.type_inv)

pub loop-entry-preserved : goal.loop-entry-preserved
loop-entry-preserved c =
    let p = c.args.parts.now in
    lays_more p (filter (is_of c.args.instance) p.interest.entries) c.args.room.now c.loop-entry.asked c.loop-entry.count c.loop-entry.room c.in-Some.field-0-0 c.in-Some.entry.now c.next.new.self
    (subst (Left p c.args.instance c.args.room.now c.loop-entry.asked c.loop-entry.count c.loop-entry.room) c.in-Some.ensures.steps c.loop-entry.invariant) c.tell.new.asked c.put.new.room c.tell.result c.tell.ensures.told c.put.ensures c.tell.ensures.knows

pub returns-clause-count : goal.returns-clause-count
returns-clause-count c =
    let p = c.args.parts.now in
    lays_count p (filter (is_of c.args.instance) p.interest.entries) c.args.room.now c.loop-entry.asked c.loop-entry.count c.loop-entry.room c.loop-entry.entry-iterator c.loop-entry.invariant c.in-None.ensures.steps.0

pub returns-clause-room : goal.returns-clause-room
returns-clause-room c =
    let p = c.args.parts.now in
    lays_all p (filter (is_of c.args.instance) p.interest.entries) c.args.room.now c.loop-entry.asked c.loop-entry.count c.loop-entry.room c.loop-entry.entry-iterator c.loop-entry.invariant c.in-None.ensures.steps.0
