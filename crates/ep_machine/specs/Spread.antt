-- How what an event raises climbs from targets to the instances above them.
use Rattle.std.specs.List.{list_any}
use Rattle.std.specs.Prelude.{Bool, List, None, Option, Some, [], bit_or, false, filter, nat_lt, suc, zero, ℕ, ◌&&◌, ◌+◌, ◌==◌, ◌∷◌}
use Rattle.ep_machine.specs.Bits.{IN, asked, when}
use Rattle.ep_base.specs.declared.counts.Counts.{Counts}
use Rattle.ep_machine.specs.Counts.{counted}
use Rattle.ep_machine.specs.Files.{Place, is_live, object_of}
use Rattle.ep_machine.specs.Objects.{Object, instance}
use Rattle.ep_machine.specs.State.{State, Watch, counts_of}

-- the bits raised at a description
abbrev pub raised_of : List (ℕ × ℕ) → ℕ → ℕ
raised_of [] d = 0
raised_of (r ∷ rest) d = bit_or (when (r.0 == d) r.1) (raised_of rest d)

-- what is raised at dead descriptions is dropped
abbrev pub raised_alive : State → List (ℕ × ℕ) → List (ℕ × ℕ)
raised_alive s raised = filter (λ r. is_live s.files r.0) raised

-- where `is_reached` says which instances IN reaches from below
abbrev pub reaching_of : (ℕ → Bool) → ℕ → Option Object → ℕ
reaching_of is_reached d None = 0
reaching_of is_reached d (Some instance) = when (is_reached d) IN
reaching_of is_reached d (Some x) = 0

abbrev pub spread_by : (ℕ → Bool) → State → List (ℕ × ℕ) → ℕ → ℕ
spread_by is_reached s raised d = bit_or (raised_of raised d) (reaching_of is_reached d (object_of s.files d))

-- an armed registration passes on what it asks for
abbrev pub passes_on_by : (ℕ → Bool) → State → List (ℕ × ℕ) → Watch → Bool
passes_on_by is_reached s raised x = x.armed && nat_lt 0 (asked x.mask (spread_by is_reached s raised x.target))

-- looking down through at most so many instances
abbrev pub is_reached_within : ℕ → State → List (ℕ × ℕ) → ℕ → Bool
is_reached_within zero s raised e = false
is_reached_within (suc levels) s raised e = list_any (λ x. x.instance == e && passes_on_by (is_reached_within levels s raised) s raised x) s.watches

unfoldable pub is_reached : State → List (ℕ × ℕ) → ℕ → Bool
is_reached s raised e = is_reached_within 5 s raised e

-- the bits of the spread at a description
abbrev pub spread : State → List (ℕ × ℕ) → ℕ → ℕ
spread s raised d = spread_by (is_reached s raised) s raised d

abbrev pub passes_on : State → List (ℕ × ℕ) → Watch → Bool
passes_on s raised x = passes_on_by (is_reached s raised) s raised x

-- each member adds one to its count, at each description from this number on
abbrev pub counts_from : State → List (ℕ × ℕ) → ℕ → List (Option Place) → List Counts
counts_from s raised d [] = []
counts_from s raised d (p ∷ ps) = counted (spread s raised d) (counts_of s d) ∷ counts_from s raised (d + 1) ps

abbrev pub arrived : State → List (ℕ × ℕ) → State
arrived s raised = record s { arrivals = counts_from s (raised_alive s raised) 0 s.files.descriptions }
