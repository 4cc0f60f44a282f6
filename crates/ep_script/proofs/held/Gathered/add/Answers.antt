use Rattle.ep_script.proofs.GatherLemmas.{adds, adds_not, held_back}
use Rattle.ep_script.proofs.held.Gathered.add.Goals as goal

pub returns-in-Ok-clause-ok : goal.returns-in-Ok-clause-ok
returns-in-Ok-clause-ok g c = adds _ _ _ _ _ _ _ _ c.if-take.ensures.bytes c.in-Ok.ensures.ok c.in-Ok.ensures.none c.emit.ensures.ok

pub returns-in-Ok-clause-err : goal.returns-in-Ok-clause-err
returns-in-Ok-clause-err g c = adds_not _ _ _ _ _ _ _ _ c.if-take.ensures.bytes c.in-Ok.ensures.ok c.emit.ensures.err

pub returns-in-Err-clause-err : goal.returns-in-Err-clause-err
returns-in-Err-clause-err g c = held_back _ _ _ c.take.new.self.bytes.items _ _ c.in-Err.fault c.if-take.ensures.bytes c.in-Err.ensures.err
