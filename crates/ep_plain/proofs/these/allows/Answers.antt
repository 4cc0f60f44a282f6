use Rattle.std.proofs.Common.{◌≡◌, ◌∙◌, ℤ, SFits, Some, ap, rules, subst, sym, true, w32}
use Rattle.std.proofs.lemmas.Int.{to_z-of_z}
use Rattle.ep_calls.proofs.ParkLemmas.{found_all}
use Rattle.ep_calls.proofs.WaitLemmas.{asked_some}
use Rattle.ep_calls.specs.Stands.{IsPlaced, number_at}
use Rattle.ep_machine.specs.Report.{is_pick}
use Rattle.ep_machine.specs.Waits.{is_positive}
use Rattle.ep_machine.specs.Watches.{number_in}
use Rattle.ep_park.specs.Waiters.{parked}
use Rattle.ep_plain.proofs.WaitingLemmas.{resume_goes, wait_goes}
use Rattle.ep_plain.specs.These.{AsksFor, CallsWait, Resumes}
use Rattle.ep_plain.specs.declared.waiting.Waiting.{Waiting}
use Rattle.ep_plain.proofs.these.allows.Goals as goal

pub may_pick-requires-in-Some-Parked-clause-lives : goal.may_pick-requires-in-Some-Parked-clause-lives
may_pick-requires-in-Some-Parked-clause-lives c =
    let p = c.args.parts.now in
    let of : Resumes p c.args.caller.0 c.args.event.now c.in-Some-Parked.waiter = subst (λ (o : Waiting). AsksFor p c.args.caller.0 c.args.event.now (Some o)) c.in-Some-Parked.field-0-is c.in-Some-Parked.ensures in
    (found_all (IsPlaced p.tables.keys) c.args.caller.0 p.parked (parked c.args.caller.0 c.in-Some-Parked.waiter) of.parked c.known.ensures.coherent.placed).instance

pub may_pick-requires-in-Some-Parked-clause-positive : goal.may_pick-requires-in-Some-Parked-clause-positive
may_pick-requires-in-Some-Parked-clause-positive c =
    let p = c.args.parts.now in
    let w = c.in-Some-Parked.waiter in
    let of : Resumes p c.args.caller.0 c.args.event.now w = subst (λ (o : Waiting). AsksFor p c.args.caller.0 c.args.event.now (Some o)) c.in-Some-Parked.field-0-is c.in-Some-Parked.ensures in
    let fits : SFits w32 w.max = search rules in
    let placed = found_all (IsPlaced p.tables.keys) c.args.caller.0 p.parked (parked c.args.caller.0 w) of.parked c.known.ensures.coherent.placed in
    subst (λ (z : ℤ). is_positive z ≡ true) (sym (to_z-of_z w32 w.max fits)) (asked_some w.max placed.most)

pub returns-in-Some-Call-clause-goes : goal.returns-in-Some-Call-clause-goes
returns-in-Some-Call-clause-goes c s steady legal stands dated =
    let p = c.args.parts.now in
    let x = c.in-Some-Call in
    let picks = c.args.picks.now in
    let fits : SFits w32 x.args.max = search rules in
    let of : CallsWait p c.args.caller.0 c.args.event.now x.args x.instance = subst (λ (o : Waiting). AsksFor p c.args.caller.0 c.args.event.now (Some o)) x.field-0-is x.ensures in
    c.may_pick.ensures.picks s steady legal stands dated
    ∙ (ap (λ (z : ℤ). is_pick s (number_at p.tables.keys x.instance) (number_in z) picks) (to_z-of_z w32 x.args.max fits)
    ∙ sym (wait_goes p c.args.caller.0 c.args.event.now x.args x.instance s picks of legal stands))

pub returns-in-Some-Parked-clause-goes : goal.returns-in-Some-Parked-clause-goes
returns-in-Some-Parked-clause-goes c s steady legal stands dated =
    let p = c.args.parts.now in
    let w = c.in-Some-Parked.waiter in
    let picks = c.args.picks.now in
    let fits : SFits w32 w.max = search rules in
    let of : Resumes p c.args.caller.0 c.args.event.now w = subst (λ (o : Waiting). AsksFor p c.args.caller.0 c.args.event.now (Some o)) c.in-Some-Parked.field-0-is c.in-Some-Parked.ensures in
    c.may_pick-in-Some-Parked.ensures.picks s steady legal stands dated
    ∙ (ap (λ (z : ℤ). is_pick s (number_at p.tables.keys w.instance) (number_in z) picks) (to_z-of_z w32 w.max fits)
    ∙ sym (resume_goes p c.args.caller.0 c.args.event.now w s picks of legal stands))
