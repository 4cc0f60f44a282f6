-- What becomes of single descriptors.
use Rattle.std.specs.Prelude.{Bool, List, None, [], suc, zero, ℕ, ◌∷◌, Option, Some, if◌then◌else◌, ◌||◌}
use Rattle.ep_table.specs.declared.words.Descriptor.{Descriptor}

-- what exec leaves
abbrev pub kept : Option Descriptor → Option Descriptor
kept None = None
kept (Some x) = if x.cloexec then None else Some x

-- what exec closes, or all
abbrev pub closing : Bool → Option Descriptor → Option Descriptor
closing every None = None
closing every (Some x) = if every || x.cloexec then Some x else None

-- a table with a number, and empty places before it where it was shorter
abbrev pub grown : List (Option Descriptor) → ℕ → List (Option Descriptor)
grown [] zero = None ∷ []
grown [] (suc k) = None ∷ grown [] k
grown (x ∷ t) zero = x ∷ t
grown (x ∷ t) (suc k) = x ∷ grown t k
