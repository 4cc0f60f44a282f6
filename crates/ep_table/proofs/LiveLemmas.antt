-- The keys that a slab's entries show.
use Rattle.std.proofs.Common.{List, None, Option, Some, ap, map, refl, ℕ, ◌+◌, ◌≡◌, ◌∷◌, []}
use Rattle.slab.specs.Slab.{entries_from}
use Rattle.ep_base.specs.declared.ids.DescId.{DescId}
use Rattle.ep_table.specs.Live.{key_of, keys_shown, live_from}
use Rattle.ep_table.specs.Stored.{key_number}
use Rattle.ep_table.specs.declared.words.Description.{Description}

pub keys_listed : (key : ℕ) (slots : List (Option Description)) → keys_shown (entries_from key slots) ≡ live_from key (map key_number slots)
keys_listed key [] = refl
keys_listed key (None ∷ slots) = keys_listed (key + 1) slots
keys_listed key (Some d ∷ slots) = ap (λ (ids : List DescId). key_of key ∷ ids) (keys_listed (key + 1) slots)
