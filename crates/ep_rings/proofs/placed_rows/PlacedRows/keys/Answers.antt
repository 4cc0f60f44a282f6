use Rattle.std.proofs.Common.{ap, length}
use Rattle.std.proofs.iter.runs.Sources.{from_front}
use Rattle.std.specs.Map.Iter.{TakesFirst}
use Rattle.ep_base.specs.declared.ids.EntryId.{EntryId}
use Rattle.ep_rings.proofs.placed_rows.PlacedRows.keys.Goals as goal

pub returns-clause-runs : goal.returns-clause-runs
returns-clause-runs g c = from_front (TakesFirst (λ (id : EntryId). id)) (λ id. id) (λ s. s) (λ s t h. ap length h.0) (λ s x t h. h)
