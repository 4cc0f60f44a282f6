use Rattle.std.proofs.Common.{arith, None, Some}
use Rattle.std.proofs.lemmas.Bool.{false≢true, leb-true}
use Rattle.ep_counters.specs.Law.{NextIsOver}
use Rattle.ep_counters.proofs.Arrivals.{IsNextArrival-after, advance-when_next}
use Rattle.ep_counters.proofs.law.next_arrivals.Goals as goal

over : NextIsOver
over t old new None h come = absurd (false≢true come)
over t old new (Some moment) h come = IsNextArrival-after t moment new (omega (arith, h.0)) h.1 (leb-true moment new come)

pub returns-clause-advance : goal.returns-clause-advance
returns-clause-advance c = λ t old new next h. advance-when_next t old new next h

pub returns-clause-over : goal.returns-clause-over
returns-clause-over c = over
