-- Which registrations pass something on.
use Rattle.std.specs.List.{IsDistinct, list_any}
use Rattle.std.specs.Prelude.{◌≡◌, Bool, false, ℕ, List, map, nat_eq, nat_lt, Option, Some, None, slice_index_or}
use Rattle.ep_base.specs.declared.ids.EntryId.{EntryId}
use Rattle.ep_interest.specs.declared.entry.Entry.{Entry}

abbrev pub passes_on : Option Entry → Bool
passes_on None = false
passes_on (Some x) = nat_lt 0 x.passes_in

abbrev pub key_numbers : List EntryId → List ℕ
key_numbers ids = map (λ id. id.0) ids

-- whether a key is in the list
abbrev pub has_id : List EntryId → ℕ → Bool
has_id ids k = list_any (nat_eq k) (key_numbers ids)

-- the keys of those that pass something on, each once
pub record ArePassing (slots : List (Option Entry)) (ids : List EntryId) : Type 0 where
  pub each : (k : ℕ) → has_id ids k ≡ passes_on (slice_index_or slots k None)
  pub once : IsDistinct nat_eq (key_numbers ids)
