use Rattle.std.proofs.lemmas.Result.{IfOk-weaker}
use Rattle.ep_shared.proofs.shared.Shared.parked.Goals as goal

pub returns : goal.returns
returns g c = IfOk-weaker c.parked.result _ _ (λ v h. (g.K.Kernel.state c.deref.result.now.kernel, rw (← c.number.ensures.value) h)) c.parked.ensures
