use Rattle.std.proofs.Common.{None, ap, sym, arith, ◌∙◌}
use Rattle.std.specs.List.{find}
use Rattle.std.specs.Option.{option_map}
use Rattle.ep_park.proofs.DeadlineLemmas.{has_moment, moments_follow}
use Rattle.ep_park.proofs.ProcessLemmas.{counts_less, has_count}
use Rattle.ep_park.proofs.QueueLemmas.{none_removed}
use Rattle.ep_park.proofs.TallyLemmas.{least_marked, tallied_less, tally_found}
use Rattle.ep_park.proofs.ViewLemmas.{found, lookup_removed, removed}
use Rattle.ep_park.specs.Tallies.{first_at}
use Rattle.ep_park.specs.Waiters.{is_caller, listed, parked, without}
use Rattle.ep_park.proofs.park.Park.leave.Goals as goal

pub returns-in_err-waiter-clause-left : goal.returns-in_err-waiter-clause-left
returns-in_err-waiter-clause-left g c =
    ap (option_map (parked c.args.caller.0)) (c.from_residual.ensures ∙ c.in_err-waiter.ensures.value)
    ∙ (found c.args.caller.0 c.self.inside.queue ∙ ap (find (is_caller c.args.caller.0)) c.self.view_is)

pub returns-in_err-waiter-clause-rest : goal.returns-in_err-waiter-clause-rest
returns-in_err-waiter-clause-rest g c =
    ap listed c.remove.ensures.rest
    ∙ (removed c.args.caller.0 c.self.inside.queue c.remove.ensures.unique ∙ ap (without c.args.caller.0) c.self.view_is)

pub invariant_of-self : goal.invariant_of-self
invariant_of-self g c =
    let same = c.remove.ensures.rest ∙ sym (none_removed c.args.caller.0 c.self.inside.queue (sym c.in_err-waiter.ensures.value)) in
    rw same c.self.invariant

pub remove-requires-2 : goal.remove-requires-2
remove-requires-2 g c = has_moment c.self.inside.queue c.self.inside.deadlines c.args.caller.0 c.in_ok-waiter.waiter c.self.invariant.2 (sym c.in_ok-waiter.ensures.value)

pub quit-requires : goal.quit-requires
quit-requires g c = has_count c.args.caller.0 c.in_ok-waiter.waiter c.self.inside.queue c.self.inside.processes.entries c.self.invariant.1 (sym c.in_ok-waiter.ensures.value)

pub index-tally-requires : goal.index-tally-requires
index-tally-requires g c = tally_found c.args.caller.0 c.in_ok-waiter.waiter c.self.inside.queue c.self.inside.tallies.entries c.self.invariant.0 (sym c.in_ok-waiter.ensures.value)

pub discount-requires-clause-least : goal.discount-requires-clause-least
discount-requires-clause-least g c =
    omega (arith, least_marked c.args.caller.0 c.in_ok-waiter.waiter c.index-tally.result.now c.self.inside.queue c.self.inside.tallies.entries c.self.invariant.0 (sym c.in_ok-waiter.ensures.value) c.index-tally.ensures)

pub invariant_of-self-2 : goal.invariant_of-self-2
invariant_of-self-2 g c =
    let es = c.self.inside.queue in
    let caller = c.args.caller.0 in
    let w = c.in_ok-waiter.waiter in
    let has = sym c.in_ok-waiter.ensures.value in
    let rest = c.remove.ensures.rest in
    rw rest (
      tallied_less es c.self.inside.tallies.entries c.discount.new.tallies.entries caller w c.index-tally.result.now c.first_at-first.result c.self.invariant.0 has c.index-tally.ensures
          (c.first_at-first.ensures ∙ ap (λ es. first_at w.instance.0 (listed es)) rest) c.discount.ensures,
      counts_less es c.self.inside.processes.entries c.quit.new.processes.entries caller w c.self.invariant.1 has c.quit.ensures,
      moments_follow es _ c.self.inside.deadlines c.remove-2.new.self caller None c.self.invariant.2 c.remove-2.ensures (λ e. lookup_removed caller e es c.remove.ensures.unique),
    )

pub returns-clause-left : goal.returns-clause-left
returns-clause-left g c =
    ap (option_map (parked c.args.caller.0)) c.in_ok-waiter.ensures.value
    ∙ (found c.args.caller.0 c.self.inside.queue ∙ ap (find (is_caller c.args.caller.0)) c.self.view_is)

pub returns-clause-rest : goal.returns-clause-rest
returns-clause-rest g c =
    ap listed c.remove.ensures.rest
    ∙ (removed c.args.caller.0 c.self.inside.queue c.remove.ensures.unique ∙ ap (without c.args.caller.0) c.self.view_is)
