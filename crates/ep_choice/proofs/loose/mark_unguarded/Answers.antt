use Rattle.std.proofs.Common.{◌∙◌, ap, sym}
use Rattle.ep_calls.specs.Parts.{Parts}
use Rattle.ep_choice.proofs.LooseLemmas.{awaited_marked, awaited_waits, guarded_still, unawaited_still}
use Rattle.ep_climb.proofs.MarkLemmas.{coherent_longest, lives_where}
use Rattle.ep_park.specs.Waiters.{longest_marked}
use Rattle.ep_choice.proofs.loose.mark_unguarded.Goals as goal

pub returns-then-not-is_awaited-clause-marks : goal.returns-then-not-is_awaited-clause-marks
returns-then-not-is_awaited-clause-marks g c =
    unawaited_still c.args.parts.now c.args.instance.0 (sym c.is_awaited.ensures.exact ∙ c.if-not-is_awaited.true)

pub is_guarded-requires-clause-live : goal.is_guarded-requires-clause-live
is_guarded-requires-clause-live g c =
    let p = c.args.parts.now in
    lives_where p.tables p.parked c.args.instance.0 c.known.ensures.coherent.placed (awaited_waits p c.args.instance.0 (sym c.is_awaited.ensures.exact ∙ c.if-not-is_awaited.false))

pub returns-then-is_guarded-clause-marks : goal.returns-then-is_guarded-clause-marks
returns-then-is_guarded-clause-marks g c =
    let p = c.args.parts.now in
    c.is_guarded.ensures.parts ∙ guarded_still p c.args.instance.0 (sym c.is_guarded.ensures.exact ∙ c.if-is_guarded.true)

pub invariant_of-parts : goal.invariant_of-parts
invariant_of-parts g c =
    let k = c.parts.inside in
    coherent_longest (record { tables = k.tables; interest = k.interest; graph = k.graph; parked = k.waiters; clock = k.clock }) c.args.instance.0 c.mark_longest.new.self c.mark_longest.ensures c.parts.invariant

pub returns-clause-marks : goal.returns-clause-marks
returns-clause-marks g c =
    let e = c.args.instance.0 in
    let waiters = c.mark_longest.ensures ∙ ap (λ (q : Parts). longest_marked e q.parked) c.parts.view_is in
    (λ i. record (c.parts.view_is i) { parked = waiters i })
    ∙ awaited_marked c.args.parts.now c.is_guarded.new.parts e c.is_guarded.ensures.parts (sym c.is_awaited.ensures.exact ∙ c.if-not-is_awaited.false) (sym c.is_guarded.ensures.exact ∙ c.if-is_guarded.false)
