use Rattle.std.proofs.Common.{MatchOption, subst}
use Rattle.ep_due.specs.DueMap.{HasNoMoment, IsEarliest, Moments}
use Rattle.ep_alarms.proofs.EarliestLemmas.{earliest_tells}
use Rattle.ep_alarms.proofs.alarms.Alarms.earliest.Goals as goal

pub returns : goal.returns
returns c = λ v now sound are_set.
    let told = subst (λ (a : Moments). MatchOption c.earliest.result (HasNoMoment a) (λ m. IsEarliest a m)) c.self.view_is c.earliest.ensures in
    earliest_tells c.next_arrivals.ensures.advance v now c.args.self.now sound are_set c.earliest.result told
