use Rattle.std.proofs.Common.{Some, ap, arith, is_some, sym, ◌∙◌}
use Rattle.std.specs.List.{list_any}
use Rattle.ep_park.proofs.DeadlineLemmas.{found_marked, has_moment, moments_follow}
use Rattle.ep_park.proofs.ProcessLemmas.{counts_marked}
use Rattle.ep_park.proofs.TallyLemmas.{few_marked, least_marked, tallied_marked, tally_found}
use Rattle.ep_park.proofs.ViewLemmas.{marked_listed, present}
use Rattle.ep_park.specs.Changes.{with_mark_at}
use Rattle.ep_park.specs.Queue.{marked_in}
use Rattle.ep_park.specs.Waiters.{is_caller, listed}
use Rattle.ep_park.proofs.park.Park.set_mark.Goals as goal

pub unwrap-waiter-requires : goal.unwrap-waiter-requires
unwrap-waiter-requires g c =
    ap is_some c.get.ensures.value
    ∙ (present c.args.caller.0 c.self.inside.queue ∙ (ap (list_any (is_caller c.args.caller.0)) c.self.view_is ∙ c.requires))

pub index-tally-requires : goal.index-tally-requires
index-tally-requires g c = tally_found c.args.caller.0 c.unwrap-waiter.result c.self.inside.queue c.self.inside.tallies.entries c.self.invariant.0 (sym c.get.ensures.value ∙ c.unwrap-waiter.ensures)

pub set-requires : goal.set-requires
set-requires g c = has_moment c.self.inside.queue c.self.inside.deadlines c.args.caller.0 c.unwrap-waiter.result c.self.invariant.2 (sym c.get.ensures.value ∙ c.unwrap-waiter.ensures)

pub set_mark-requires : goal.set_mark-requires
set_mark-requires g c = ap is_some (sym c.get.ensures.value ∙ c.unwrap-waiter.ensures)

pub recount-requires-clause-least : goal.recount-requires-clause-least
recount-requires-clause-least g c =
    omega (arith, least_marked c.args.caller.0 c.unwrap-waiter.result c.index-tally.result.now c.self.inside.queue c.self.inside.tallies.entries c.self.invariant.0 (sym c.get.ensures.value ∙ c.unwrap-waiter.ensures) c.index-tally.ensures)

pub recount-requires-clause-most : goal.recount-requires-clause-most
recount-requires-clause-most g c =
    few_marked c.unwrap-waiter.result.instance.0 _ c.self.inside.queue (Some c.index-tally.result.now) (sym c.index-tally.ensures ∙ c.self.invariant.0.of c.unwrap-waiter.result.instance.0)
    (omega (arith, c.len.ensures.len, c.len.ensures.small))

pub invariant_of-self : goal.invariant_of-self
invariant_of-self g c =
    let es = c.self.inside.queue in
    let k = c.args.caller.0 in
    let b = c.args.marked in
    let w = c.unwrap-waiter.result in
    let has = sym c.get.ensures.value ∙ c.unwrap-waiter.ensures in
    rw c.set_mark.ensures (
      tallied_marked k w b c.index-tally.result.now es c.self.inside.tallies.entries c.recount.new.tallies.entries c.self.invariant.0 has c.index-tally.ensures c.recount.ensures,
      counts_marked k w b es c.self.inside.processes.entries c.self.invariant.1 has,
      moments_follow es (marked_in k b es) c.self.inside.deadlines c.set.new.self k (Some (record w { marked = b })) c.self.invariant.2 (rw (← c.awaited.ensures) c.set.ensures) (λ e. found_marked es k e w b has),
    )

pub returns : goal.returns
returns g c =
    ap listed c.set_mark.ensures
    ∙ (marked_listed c.args.caller.0 c.args.marked c.self.inside.queue ∙ ap (with_mark_at c.args.caller.0 c.args.marked) c.self.view_is)
