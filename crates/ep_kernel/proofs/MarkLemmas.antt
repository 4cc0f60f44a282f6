-- The hopes and the answers of instances while marks are set.
use Rattle.std.proofs.Common.{◌∙◌, ap, map}
use Rattle.ep_calls.specs.Parts.{Parts}
use Rattle.ep_choice.proofs.MarkingLemmas.{kept_settled, ready_kept}
use Rattle.ep_choice.specs.Narrow.{Lasts}
use Rattle.ep_interest.specs.Registrations.{settled}
use Rattle.ep_kernel.proofs.HopesForLemmas.{hopes_settled}
use Rattle.ep_kernel.specs.Asked.{Knows, KnowsIn}
use Rattle.ep_kernel.specs.declared.asked.Asked.{Asked}

-- they do not ask who is parked, nor for the graph
pub knows_in : (p : Parts) (a : Asked) → Knows p a → KnowsIn a p.tables p.clock p.interest
knows_in p a h = λ graph ws. record { told = h.told; hopes = record { places = h.hopes.places; complete = h.hopes.complete } }

-- nor for what registrations pass on
pub knows_lasts : Lasts KnowsIn
knows_lasts a v now old new target chosen entries keys added next h = λ graph ws.
    let p : Parts = record { tables = v; interest = old; graph = graph; parked = ws; clock = now } in
    let k = h graph ws in
    record {
      told = record {
        ready = λ i t. ready_kept v now old new target chosen entries i ∙ k.told.ready i t;
        idle = λ i t. ready_kept v now old new target chosen entries i ∙ k.told.idle i t;
      };
      hopes = hopes_settled p new ws (ap (map settled) entries ∙ kept_settled target chosen old.entries) keys a.hopes k.hopes;
    }
