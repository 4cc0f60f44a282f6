-- Sets of bits.
use Rattle.std.specs.Prelude.{Bool, List, [], bit_and, bit_or, if◌then◌else◌, not, ℕ, ◌-◌, ◌==◌, ◌≡◌, ◌∷◌}
use Rattle.ep_base.specs.declared.object.End.{End}
use Rattle.ep_base.specs.declared.object.End.TheVariants.{First, Second}
use Rattle.ep_base.specs.declared.object.Raised.{Raised}

abbrev pub IN : ℕ
IN = 1

abbrev pub OUT : ℕ
OUT = 4

abbrev pub ERR : ℕ
ERR = 8

abbrev pub HUP : ℕ
HUP = 16

abbrev pub RDHUP : ℕ
RDHUP = 8192

abbrev pub EXCLUSIVE : ℕ
EXCLUSIVE = 268435456

abbrev pub WAKEUP : ℕ
WAKEUP = 536870912

abbrev pub ONESHOT : ℕ
ONESHOT = 1073741824

abbrev pub ET : ℕ
ET = 2147483648

-- some of the wanted bits is among these
abbrev pub has_bit : ℕ → ℕ → Bool
has_bit bits wanted = not (bit_and bits wanted == 0)

-- all of these are among the allowed ones
abbrev pub has_only : ℕ → ℕ → Bool
has_only bits allowed = bit_and bits allowed == bits

abbrev pub when : Bool → ℕ → ℕ
when holds bits = if holds then bits else 0

abbrev pub union : List ℕ → ℕ
union [] = 0
union (bits ∷ rest) = bit_or bits (union rest)

-- those that the mask asks for: ERR and HUP belong to every mask
abbrev pub asked : ℕ → ℕ → ℕ
asked mask bits = bit_and bits (union (mask ∷ ERR ∷ HUP ∷ []))

-- what the mask of an exclusive registration may have
abbrev pub exclusive_bits : ℕ
exclusive_bits = union (IN ∷ OUT ∷ ERR ∷ HUP ∷ EXCLUSIVE ∷ WAKEUP ∷ ET ∷ [])

-- those that hold after and not before
abbrev pub beginning : ℕ → ℕ → ℕ
beginning before after = after - bit_and after before

-- each bit that begins to hold is among those that are raised
abbrev pub IsCovered : ℕ → ℕ → ℕ → Type 0
IsCovered before after raised = bit_and (beginning before after) raised ≡ beginning before after

-- raised at the first end and at the second
abbrev pub raises : ℕ → ℕ → Raised
raises first second = record { first = record { 0 = first }; second = record { 0 = second } }

abbrev pub nothing : Raised
nothing = raises 0 0

abbrev pub at_end : Raised → End → ℕ
at_end r First = r.first.0
at_end r Second = r.second.0
