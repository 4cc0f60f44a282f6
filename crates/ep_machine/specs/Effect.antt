-- What a call on an object gives, refusals, and numbers as bytes.
use Rattle.std.specs.Prelude.{Bool, List, None, Option, Some, [], false, suc, true, zero, ℕ, ◌%◌, ◌*◌, ◌+◌, ◌/◌, ◌∷◌}
use Rattle.ep_base.specs.declared.answer.Answer.{Answer}
use Rattle.ep_base.specs.declared.answer.Answer.TheVariants.{Refused}
use Rattle.ep_base.specs.declared.errno.Errno.{Errno}
use Rattle.ep_base.specs.declared.object.Raised.{Raised}
use Rattle.ep_machine.specs.Bits.{nothing}

-- an answer, the new content, what was raised at its ends
abbrev pub Effect : Type 0 → Type 0
Effect X = Answer × X × Raised

-- the error of the first test that holds
abbrev pub first : List (Bool × Errno) → Option Errno
first [] = None
first ((true, e) ∷ rest) = Some e
first ((false, e) ∷ rest) = first rest

-- a refusal leaves the content and raises nothing
abbrev pub unless : {X : Type 0} → Option Errno → X → Effect X → Effect X
unless (Some e) x f = (Refused e, x, nothing)
unless None x f = f

-- what a call gives, its refusals being these
abbrev pub attempt : {X : Type 0} → List (Bool × Errno) → X → Effect X → Effect X
attempt refusals x f = unless (first refusals) x f

-- k in that many bytes, the lowest first
abbrev pub to_bytes : ℕ → ℕ → List ℕ
to_bytes zero k = []
to_bytes (suc m) k = (k % 256) ∷ to_bytes m (k / 256)

abbrev pub from_bytes : List ℕ → ℕ
from_bytes [] = 0
from_bytes (b ∷ bs) = b + 256 * from_bytes bs
