-- Numbers of 32 bits in 64.
use Rattle.std.proofs.Common.{ap, arith, of_z, to_z, ℤ, ◌∙◌, ◌≡◌, SFits, w32, w64}
use Rattle.std.proofs.lemmas.Int.{to_z-of_z}

-- a number of 32 bits in 64
pub widened : (z r : ℤ) → SFits w32 z → r ≡ to_z w32 (of_z w32 z) → to_z w64 (of_z w64 r) ≡ z
widened z r fits e =
    let same : r ≡ z = e ∙ to_z-of_z w32 z fits in
    let long : SFits w64 z = grind arith in
    ap (λ x. to_z w64 (of_z w64 x)) same ∙ to_z-of_z w64 z long
