use Rattle.std.proofs.Common.{ap, length}
use Rattle.std.proofs.iter.runs.Sources.{from_front}
use Rattle.std.specs.Map.Iter.{TakesFirst}
use Rattle.ep_base.specs.declared.ids.DescId.{DescId}
use Rattle.ep_table.proofs.DyingKeysLemmas.{numbers_queued}
use Rattle.ep_table.proofs.store.Store.dying.Goals as goal

pub returns-clause-exact : goal.returns-clause-exact
returns-clause-exact g c =
    rw (c.deref.ensures.value, ← c.self.view_is) (numbers_queued _ c.self.inside.dying.items c.self.invariant.keyed)

pub returns-clause-runs : goal.returns-clause-runs
returns-clause-runs g c = from_front (TakesFirst (λ (id : DescId). id)) (λ (id : DescId). id) (λ s. s) (λ s t h. ap length h.0) (λ s x t h. h)
