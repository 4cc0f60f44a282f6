-- The links of instances, under tickets that rise in the order in which they were made.
use Rattle.std.specs.BTreeMap.{BTreeMap}
use Rattle.std.specs.Map.{remove_entry}
use Rattle.std.specs.Prelude.{List, [], if◌then◌else◌, map, nat_eq, slice_index_or, ℕ, ◌++◌, ◌==◌, ◌∷◌, ◌≡◌}
use Rattle.ep_nest.specs.declared.link.Link.{Link}

-- the tickets and the links of an instance
abbrev pub turns_at : List (List (ℕ × Link)) → ℕ → List (ℕ × Link)
turns_at tss k = slice_index_or tss k []

abbrev pub entries_at : List (BTreeMap ℕ Link) → ℕ → List (ℕ × Link)
entries_at maps k = turns_at (map (λ m. m.entries) maps) k

abbrev pub SameTurns : List (List (ℕ × Link)) → List (List (ℕ × Link)) → Type 0
SameTurns old new = (k : ℕ) → turns_at new k ≡ turns_at old k

-- the instance has one link more, behind its others
abbrev pub GainsTurn : List (List (ℕ × Link)) → List (List (ℕ × Link)) → ℕ → ℕ → Link → Type 0
GainsTurn old new instance ticket link =
    (k : ℕ) → turns_at new k ≡ turns_at old k ++ (if instance == k then (ticket, link) ∷ [] else [])

-- the instance has no link under the ticket
abbrev pub LosesTurn : List (List (ℕ × Link)) → List (List (ℕ × Link)) → ℕ → ℕ → Type 0
LosesTurn old new instance ticket =
    (k : ℕ) → turns_at new k ≡ (if instance == k then remove_entry (nat_eq ticket) (turns_at old k) else turns_at old k)
