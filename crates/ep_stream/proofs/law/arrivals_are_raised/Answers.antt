use Rattle.ep_stream.proofs.PairArrivals.{pair_shutdown_law}
use Rattle.ep_stream.proofs.law.arrivals_are_raised.Goals as goal

pub returns-clause-pair_shutdown : goal.returns-clause-pair_shutdown
returns-clause-pair_shutdown c = pair_shutdown_law
