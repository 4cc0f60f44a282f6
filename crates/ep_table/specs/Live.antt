-- The keys of the live descriptions, in their order.
use Rattle.std.specs.Prelude.{List, None, Option, Some, [], map, ℕ, ◌+◌, ◌∷◌}
use Rattle.ep_base.specs.declared.ids.DescId.{DescId}

abbrev pub key_of : ℕ → DescId
key_of key = record { 0 = key }

-- each key from this one on that has a number
abbrev pub live_from : ℕ → List (Option ℕ) → List DescId
live_from key [] = []
live_from key (None ∷ rest) = live_from (key + 1) rest
live_from key (Some number ∷ rest) = key_of key ∷ live_from (key + 1) rest

-- each key that has a number
abbrev pub live_ids : List (Option ℕ) → List DescId
live_ids keys = live_from 0 keys

-- the keys of a slab's entries
abbrev pub keys_shown : {T : Type 0} → List (ℕ × T) → List DescId
keys_shown entries = map (λ entry. key_of entry.0) entries
