use Rattle.std.proofs.Common.{ap, ◌∙◌}
use Rattle.ep_nest.proofs.AdjacentLemmas.{opened}
use Rattle.ep_nest.specs.Adjacent.{entries_at}
use Rattle.ep_nest.proofs.adjacent.open.Goals as goal

pub loop-maps-preserved : goal.loop-maps-preserved
loop-maps-preserved g c = λ k. ap (λ ms. entries_at ms k) c.in_ok-push.ensures.items ∙ (opened c.loop-maps.maps.items _ k c.new-map.ensures.empty ∙ c.loop-maps.invariant k)
