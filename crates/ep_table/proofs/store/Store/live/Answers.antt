use Rattle.std.proofs.Common.{ap, length, ◌∙◌}
use Rattle.std.proofs.iter.runs.Sources.{from_front}
use Rattle.std.specs.Map.Iter.{TakesFirst}
use Rattle.ep_base.specs.declared.ids.DescId.{DescId}
use Rattle.ep_table.specs.Live.{keys_shown, live_ids}
use Rattle.ep_table.specs.Value.{Things}
use Rattle.ep_table.proofs.LiveLemmas.{keys_listed}
use Rattle.ep_table.proofs.store.Store.live.Goals as goal

pub returns-clause-exact : goal.returns-clause-exact
returns-clause-exact g c =
    ap keys_shown c.iter.ensures.rest
    ∙ (keys_listed 0 c.self.inside.descriptions.slots
    ∙ ap (λ (v : Things). live_ids v.keys) c.self.view_is)

pub returns-clause-runs : goal.returns-clause-runs
returns-clause-runs g c = from_front (TakesFirst (λ (id : DescId). id)) (λ (id : DescId). id) (λ s. s) (λ s t h. ap length h.0) (λ s x t h. h)
