-- Registrations changed one after another.
use Rattle.std.specs.Option.{option_map}
use Rattle.std.specs.Prelude.{◌≡◌, ◌⊎◌, ℕ, List, [], ◌∷◌, Option, None, IsSome, slice_index_or, slice_set}
use Rattle.ep_base.specs.declared.ids.EntryId.{EntryId}
use Rattle.ep_interest.specs.declared.entry.Entry.{Entry}

-- each key has a registration
abbrev pub AllHeld : List (Option Entry) → List EntryId → Type 0
AllHeld slots [] = Unit {0}
AllHeld slots (id ∷ ids) = IsSome (slice_index_or slots id.0 None) × AllHeld slots ids

-- the registration under each of these keys changed in its place, the first key's first
abbrev pub changed_at : (Entry → Entry) → List EntryId → List (Option Entry) → List (Option Entry)
changed_at f [] slots = slots
changed_at f (id ∷ ids) slots = changed_at f ids (slice_set slots id.0 (option_map f (slice_index_or slots id.0 None)))

-- a key is in the list
abbrev pub Among : ℕ → List EntryId → Type 0
Among k [] = ⊥
Among k (id ∷ ids) = (id.0 ≡ k) ⊎ Among k ids
