-- Which keys of registrations an event leaves.
use Rattle.std.specs.Prelude.{◌≡◌, ◌⊎◌, ◌+◌, None, Some, ℕ}
use Rattle.ep_base.specs.declared.ids.EntryId.{EntryId}
use Rattle.ep_interest.specs.Registrations.{Registrations, number_under}

-- each key has the registration that it had, or none
abbrev pub KeepsIds : Registrations → Registrations → Type 0
KeepsIds old new = (id : EntryId) → (number_under new id ≡ None) ⊎ (number_under new id ≡ number_under old id)

-- a key that has a registration had it before, or it is the one that was added
abbrev pub HadOrAdds : Registrations → Registrations → Type 0
HadOrAdds old new = (id : EntryId) (n : ℕ) → number_under new id ≡ Some n
    → (number_under old id ≡ Some n) ⊎ ((number_under old id ≡ None) × (n ≡ old.added + 1))
