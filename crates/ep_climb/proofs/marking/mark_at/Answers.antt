use Rattle.std.proofs.Common.{◌≡◌, ◌∙◌, IsSome, ap, false, subst, sym}
use Rattle.ep_calls.specs.Parts.{Parts}
use Rattle.ep_machine.specs.Waits.{waits_at}
use Rattle.ep_table.specs.Value.{number_under}
use Rattle.ep_climb.proofs.MarkLemmas.{coherent_longest, lives_where, ready_in, unwaited, with_parked}
use Rattle.ep_climb.proofs.marking.mark_at.Goals as goal

pub returns-then-not-has_waiter-clause-marks : goal.returns-then-not-has_waiter-clause-marks
returns-then-not-has_waiter-clause-marks g c =
    let p = c.args.parts.now in
    let e = c.args.instance.0 in
    let none = subst (λ (q : Parts). waits_at q.parked e ≡ false) c.parts.view_is (sym c.has_waiter.ensures ∙ c.if-not-has_waiter.true) in
    ap (with_parked p) (sym (unwaited (ready_in p) p.parked e none))

pub is_ready-requires-clause-live : goal.is_ready-requires-clause-live
is_ready-requires-clause-live g c =
    let k = c.parts.inside in
    let e = c.args.instance.0 in
    subst (λ (q : Parts). IsSome (number_under q.tables c.args.instance)) c.parts.view_is
    (lives_where k.tables k.waiters e c.parts.invariant.placed (sym c.has_waiter.ensures ∙ c.if-not-has_waiter.false))

pub invariant_of-parts : goal.invariant_of-parts
invariant_of-parts g c =
    let k = c.parts.inside in
    coherent_longest (record { tables = k.tables; interest = k.interest; graph = k.graph; parked = k.waiters; clock = k.clock }) c.args.instance.0 c.mark_longest.new.self c.mark_longest.ensures c.parts.invariant
