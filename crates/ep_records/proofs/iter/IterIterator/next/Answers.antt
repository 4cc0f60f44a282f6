use Rattle.std.proofs.Common.{◌∙◌, sym}
use Rattle.ep_records.proofs.KeptLemmas.{drop_past, drop_read}
use Rattle.ep_records.proofs.iter.IterIterator.next.Goals as goal

pub returns-in-Some-clause-steps : goal.returns-in-Some-clause-steps
returns-in-Some-clause-steps c = rw (← c.self.view_is)
    (drop_read c.self.inside.history.now.items c.self.inside.at c.in-Some.entry (sym c.get.ensures ∙ c.in-Some.is))

pub returns-in-None-clause-steps : goal.returns-in-None-clause-steps
returns-in-None-clause-steps c = rw (← c.self.view_is)
    (let past = drop_past c.self.inside.history.now.items c.self.inside.at (sym c.get.ensures ∙ c.in-None.is) in (past, past))
