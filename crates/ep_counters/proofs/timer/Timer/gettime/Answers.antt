use Rattle.std.proofs.Common.{arith}
use Rattle.ep_counters.proofs.Expirations.{expiration-later}
use Rattle.ep_counters.proofs.timer.Timer.gettime.Goals as goal

pub overflow_sub-moment : goal.overflow_sub-moment
overflow_sub-moment c =
    let now = c.args.self.now in
    let later = expiration-later now.first_moment now.interval c.expirations-past.result c.args.now c.in-Some.moment (omega (arith, c.expirations-past.ensures.count)) (cc) in
    omega (arith, later)
