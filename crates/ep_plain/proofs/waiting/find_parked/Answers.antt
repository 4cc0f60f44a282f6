use Rattle.std.proofs.Common.{◌≡◌, None, Some, find, subst, sym}
use Rattle.ep_facts.proofs.BoolFacts.{from_not}
use Rattle.ep_park.specs.Waiters.{is_caller, parked}
use Rattle.ep_calls.specs.Parts.{Parts}
use Rattle.ep_plain.proofs.WaitingLemmas.{unmarked_goes, unparked_goes}
use Rattle.ep_plain.proofs.waiting.find_parked.Goals as goal

pub returns-in_default : goal.returns-in_default
returns-in_default c s sound legal stands picks =
    let caller = c.args.caller.0 in
    unparked_goes c.args.parts.now caller s picks stands (subst (λ (q : Parts). find (is_caller caller) q.parked ≡ None) c.parts.view_is (sym c.in_default.ensures))

pub returns-then-not-waiter : goal.returns-then-not-waiter
returns-then-not-waiter c s sound legal stands picks =
    let caller = c.args.caller.0 in
    let w = c.in-Some.waiter in
    unmarked_goes c.args.parts.now caller s picks stands w (subst (λ (q : Parts). find (is_caller caller) q.parked ≡ Some (parked caller w)) c.parts.view_is (sym c.in-Some.ensures)) (from_not w.marked c.if-not-waiter.true)
