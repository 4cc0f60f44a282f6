-- The law of what is raised, in its parts.
use Rattle.ep_stream.proofs.Arrivals.{pipe_close_law, pipe_read_law, pipe_write_law}
use Rattle.ep_stream.proofs.PairArrivals.{pair_close_law, pair_error_law, pair_peek_law, pair_read_law, pair_shutdown_law, pair_write_law}

pub ruleset laws = (pipe_read_law, pipe_write_law, pipe_close_law, pair_read_law, pair_peek_law, pair_write_law, pair_shutdown_law, pair_error_law, pair_close_law)
