use Rattle.ep_kernel.proofs.MarkLemmas.{knows_in}
use Rattle.ep_kernel.proofs.mark.AskedReadiness.is_ready.Goals as goal

pub is_ready-requires-clause-knows : goal.is_ready-requires-clause-knows
is_ready-requires-clause-knows c = c.requires.knows c.args.parts.now.graph c.args.parts.now.parked

pub returns-clause-knows : goal.returns-clause-knows
returns-clause-knows c = knows_in c.args.parts.now c.is_ready.new.asked c.is_ready.ensures.knows
