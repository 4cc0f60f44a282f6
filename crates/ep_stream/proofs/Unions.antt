-- Unions of few sets.
use Rattle.std.proofs.Common.{◌≡◌, ℕ}
use Rattle.std.specs.Prelude.{bit_or}
use Rattle.std.specs.Int.Bits.{or_zero_r}

pub or_nothing : (a : ℕ) → bit_or a 0 ≡ a
or_nothing a = or_zero_r a
