use Rattle.std.proofs.Common.{◌≡◌, ◌∙◌, [], List, Some, filter, subst, sym}
use Rattle.std.proofs.lemmas.List.Elements.{All-filter}
use Rattle.ep_base.specs.declared.ids.EntryId.{EntryId}
use Rattle.ep_plain.proofs.CollectLemmas.{Collects, begins, collects_more, collects_same, first_linked}
use Rattle.ep_calls.proofs.EntryKeyLemmas.{each_found}
use Rattle.ep_calls.specs.Parts.{Parts}
use Rattle.ep_calls.specs.Stands.{IsLinked}
use Rattle.ep_calls.specs.declared.wait.Reportable.{Reportable}
use Rattle.ep_interest.specs.Registrations.{is_of, numbered}
use Rattle.ep_interest.specs.declared.entry.Entry.{Entry}
use Rattle.ep_plain.proofs.ChooseLemmas.{next_told}
use Rattle.ep_plain.specs.Choose.{reportables_at}
use Rattle.ep_plain.proofs.choose.reportables.Goals as goal

pub loop-id-init : goal.loop-id-init
loop-id-init c =
    let k = c.parts.inside in
    let p : Parts = record { tables = k.tables; interest = k.interest; graph = k.graph; parked = k.waiters; clock = k.clock } in
    let r = p.interest in
    let e = c.entries-id-items.ensures in
    let of = filter (is_of c.args.instance) r.entries in
    let all = reportables_at p.tables p.clock r c.args.instance in
    subst (λ (q : Parts). Collects q.tables q.clock q.interest c.new-found.result.items c.into_iter-id-iterator.result (reportables_at q.tables q.clock q.interest c.args.instance)) c.parts.view_is
    (subst (λ (found : List Reportable). Collects p.tables p.clock r found c.into_iter-id-iterator.result all) (sym c.new-found.ensures.items)
    (subst (λ (rest : List (EntryId × Entry)). Collects p.tables p.clock r [] rest all) (sym c.into_iter-id-iterator.ensures.into_iter_gives)
    (begins p.tables p.clock r c.entries-id-items.result of e.entries e.keys (All-filter (is_of c.args.instance) (IsLinked p.tables.keys) r.entries c.parts.invariant.linked)
    (All-filter (is_of c.args.instance) (λ (x : Entry). numbered r.entries x.number ≡ Some x) r.entries (each_found r c.known-2.ensures)))))

pub reportable-requires-clause-target : goal.reportable-requires-clause-target
reportable-requires-clause-target c =
    let p = c.args.parts.now in
    let all = reportables_at p.tables p.clock p.interest c.args.instance in
    let now = subst (λ (rest : List (EntryId × Entry)). Collects p.tables p.clock p.interest c.loop-id.found.items rest all) c.in-Some.ensures.steps c.loop-id.invariant in
    (first_linked p.tables p.clock p.interest c.loop-id.found.items c.in-Some.id c.in-Some.entry.now c.next.new.self all now).desc

pub loop-id-preserved-in-Continue-1 : goal.loop-id-preserved-in-Continue-1
loop-id-preserved-in-Continue-1 c =
    let p = c.args.parts.now in
    let found = c.loop-id.found.items in
    let id = c.in-Some.id in
    let x = c.in-Some.entry.now in
    let rest = c.next.new.self in
    let all = reportables_at p.tables p.clock p.interest c.args.instance in
    let now = subst (λ (more : List (EntryId × Entry)). Collects p.tables p.clock p.interest found more all) c.in-Some.ensures.steps c.loop-id.invariant in
    let shows = sym (next_told p c.args.dates.now c.requires.shown found id x rest all now) ∙ (sym c.is_dated.ensures ∙ c.if-is_dated.true) in
    let one = c.reportable.ensures in
    subst (λ (xs : List Reportable). Collects p.tables p.clock p.interest xs rest all) (sym c.in_ok-push.ensures.items)
    (collects_more p.tables p.clock p.interest found id x rest all now c.reportable.result one.id one.entry one.bits shows)

pub loop-id-preserved : goal.loop-id-preserved
loop-id-preserved c =
    let p = c.args.parts.now in
    let found = c.loop-id.found.items in
    let id = c.in-Some.id in
    let x = c.in-Some.entry.now in
    let rest = c.next.new.self in
    let all = reportables_at p.tables p.clock p.interest c.args.instance in
    let now = subst (λ (more : List (EntryId × Entry)). Collects p.tables p.clock p.interest found more all) c.in-Some.ensures.steps c.loop-id.invariant in
    collects_same p.tables p.clock p.interest found id x rest all now (sym (next_told p c.args.dates.now c.requires.shown found id x rest all now) ∙ (sym c.is_dated.ensures ∙ c.if-is_dated.false))
