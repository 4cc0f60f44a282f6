-- Which registrations are exclusive.
use Rattle.std.specs.Prelude.{Bool, List, None, Option, Some, false, filter, if◌then◌else◌, not, ℕ, ◌&&◌, ◌==◌}
use Rattle.ep_base.specs.declared.ids.DescId.{DescId}
use Rattle.ep_base.specs.declared.ids.EntryId.{EntryId}
use Rattle.ep_interest.specs.Registrations.{is_on}
use Rattle.ep_interest.specs.declared.entry.Entry.{Entry}
use Rattle.ep_machine.specs.Bits.{EXCLUSIVE, has_bit}

abbrev pub is_exclusive : Entry → Bool
is_exclusive x = has_bit x.mask.0 EXCLUSIVE

-- a slot has one
abbrev pub is_exclusive_slot : Option Entry → Bool
is_exclusive_slot None = false
is_exclusive_slot (Some x) = is_exclusive x

-- of these with their keys
abbrev pub exclusive_of : List (EntryId × Entry) → List (EntryId × Entry)
exclusive_of xs = filter (λ p. is_exclusive p.1) xs

abbrev pub is_number : Option ℕ → ℕ → Bool
is_number None number = false
is_number (Some kept) number = kept == number

-- an exclusive one on this description, and not the one with this number
abbrev pub stops : DescId → Option ℕ → Entry → Bool
stops desc keep x = is_on desc x && is_exclusive x && not (is_number keep x.number)

-- passes nothing on any more
abbrev pub kept_passing : DescId → Option ℕ → Entry → Entry
kept_passing desc keep x = if stops desc keep x then record x { passes_in = 0 } else x
