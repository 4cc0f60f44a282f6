use Rattle.ep_kernel.proofs.AskedLemmas.{knows_forgotten}
use Rattle.ep_kernel.proofs.MarkLemmas.{knows_in, knows_lasts}
use Rattle.ep_kernel.proofs.mark.mark_by_hopes.Goals as goal

pub mark_woken-requires-clause-knows : goal.mark_woken-requires-clause-knows
mark_woken-requires-clause-knows c =
    let p = c.args.parts.now in
    knows_in p c.forget.new.self (knows_forgotten p c.args.beside.now.asked.hopes c.forget.new.self c.requires.hopes c.forget.ensures.hopes c.forget.ensures.ready c.forget.ensures.idle)

pub mark_woken-requires-clause-lasts : goal.mark_woken-requires-clause-lasts
mark_woken-requires-clause-lasts c = knows_lasts

pub returns-clause-hopes : goal.returns-clause-hopes
returns-clause-hopes c =
    let p = c.mark_woken.new.parts in
    (c.mark_woken.ensures.knows p.graph p.parked).hopes
