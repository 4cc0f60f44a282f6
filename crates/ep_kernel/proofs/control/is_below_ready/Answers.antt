use Rattle.ep_kernel.proofs.AskedLemmas.{knows_forgotten}
use Rattle.ep_kernel.proofs.control.is_below_ready.Goals as goal

pub is_ready-requires-clause-knows : goal.is_ready-requires-clause-knows
is_ready-requires-clause-knows c = knows_forgotten c.args.parts.now c.args.asked.now.hopes c.forget.new.self c.requires.hopes c.forget.ensures.hopes c.forget.ensures.ready c.forget.ensures.idle
