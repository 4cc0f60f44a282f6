use Rattle.std.proofs.Common.{ap, arith}
use Rattle.ep_machine.specs.Timer.{Timer}
use Rattle.ep_counters.proofs.Arrivals.{IsNextArrival-later, IsNextArrival-past}
use Rattle.ep_counters.proofs.timer.Timer.next.Goals as goal

pub returns-in-Some : goal.returns-in-Some
returns-in-Some c =
    IsNextArrival-later c.args.self.now c.args.now c.in-Some.moment (cc (ap (λ (t : Timer). t.taken) c.self.view_is)) (omega (arith, c.at.ensures.at, c.if-moment-at.true))

pub returns-in_default : goal.returns-in_default
returns-in_default c =
    IsNextArrival-past c.args.self.now c.args.now c.in-Some.moment (cc (ap (λ (t : Timer). t.taken) c.self.view_is)) (omega (arith, c.at.ensures.at, c.if-moment-at.false))
