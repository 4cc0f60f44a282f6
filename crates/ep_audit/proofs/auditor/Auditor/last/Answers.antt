use Rattle.std.proofs.Common.{◌∙◌, sym}
use Rattle.ep_audit.proofs.KeptLemmas.{tells_here, tells_out}
use Rattle.ep_audit.proofs.auditor.Auditor.last.Goals as goal

pub returns-in-Some : goal.returns-in-Some
returns-in-Some c = λ before last e.
    tells_here c.history.result.now c.args.self.now.kernel.past before last c.in-Some.entry c.history.ensures.past e (sym c.last.ensures.place ∙ c.in-Some.is)

pub returns-in-None : goal.returns-in-None
returns-in-None c = λ before last e.
    c.last-in-None.ensures.place ∙ tells_out c.history.result.now c.args.self.now.out c.args.self.now.kernel before last
    c.args.self.now.last c.history.ensures.taken c.history.ensures.past e (sym c.last.ensures.place ∙ c.in-None.is)
