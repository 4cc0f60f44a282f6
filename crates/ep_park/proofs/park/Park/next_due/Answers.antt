use Rattle.std.proofs.Common.{List, MatchOption, map, subst, ◌≡◌}
use Rattle.ep_machine.specs.State.{Waiter as Parked}
use Rattle.ep_machine.specs.Waits.{marked_if_due}
use Rattle.ep_park.proofs.DeadlineLemmas.{next_of}
use Rattle.ep_park.specs.Deadlines.{IsAwaitedBy}
use Rattle.ep_park.proofs.park.Park.next_due.Goals as goal

pub returns : goal.returns
returns g c =
    let now = c.args.now in
    subst (λ (ws : List Parked). MatchOption c.first.result (ws ≡ map (marked_if_due now) ws) (λ k. IsAwaitedBy ws now k.0)) c.self.view_is
    (next_of c.self.inside.queue c.self.inside.deadlines now c.first.result c.len-parked.ensures.unique c.self.invariant.2 c.first.ensures)
