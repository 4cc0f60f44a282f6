use Rattle.ep_climb.proofs.MarkLemmas.{coherent_due}
use Rattle.ep_climb.proofs.marking.mark_due.Goals as goal

pub invariant_of-parts : goal.invariant_of-parts
invariant_of-parts c =
    let k = c.parts.inside in
    coherent_due (record { tables = k.tables; interest = k.interest; graph = k.graph; parked = k.waiters; clock = k.clock }) c.mark_due.new.self c.mark_due.ensures c.parts.invariant
