use Rattle.ep_shared.proofs.shared.Shared.finish.Goals as goal

pub returns-clause-result : goal.returns-clause-result
returns-clause-result g c =
    let kernel = c.into_inner.result.kernel in
    record {
      bounds = g.K.Kernel.bounds kernel;
      past = g.K.Kernel.past kernel;
      closes = rw (← c.number.ensures.value) c.close.ensures.result;
    }
