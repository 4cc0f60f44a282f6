-- The number that a run of one byte stands for.
use Rattle.std.proofs.Common.{ap, replicate, ℕ, ◌≡◌, ◌≤◌}
use Rattle.std.proofs.lemmas.List.{take-replicate}
use Rattle.ep_machine.specs.Counters.{written}
use Rattle.ep_machine.specs.Effect.{from_bytes}

pub filled_value : (n b : ℕ) → 8 ≤ n → written (replicate n b) ≡ from_bytes (replicate 8 b)
filled_value n b h = ap from_bytes (take-replicate 8 n b h)
