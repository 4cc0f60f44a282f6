-- The keys that deaths leave.
use Rattle.std.proofs.Common.{◌≡◌, ◌⊎◌, ◌∙◌, true, false, List, None, Option, Some, ap, cond, inl, inr, is_some, refl, slice_index_or, ℕ}
use Rattle.ep_base.specs.declared.ids.EntryId.{EntryId}
use Rattle.ep_interest.specs.Registrations.{Registrations, left_number, number_under, numbered}
use Rattle.ep_interest.specs.declared.entry.Entry.{Entry}
use Rattle.ep_calls.specs.Ids.{KeepsIds}

left_or_none : (xs : List Entry) (o : Option ℕ) → (left_number xs o ≡ None) ⊎ (left_number xs o ≡ o)
left_or_none xs None = inl refl
left_or_none xs (Some n) = elim (is_some (numbered xs n)) as (λ b. (cond b (Some n) None ≡ None) ⊎ (cond b (Some n) None ≡ Some n)) [
  | true ↦ inr refl
  | false ↦ inl refl
]

-- once more are gone
pub ids_purged : (old mid purged new : Registrations) → ((id : EntryId) → number_under purged id ≡ left_number purged.entries (number_under mid id)) → new.keys ≡ purged.keys → KeepsIds old mid → KeepsIds old new
ids_purged old mid purged new left keys kept id =
    let same : number_under new id ≡ left_number purged.entries (number_under mid id) = ap (λ (ks : List (Option ℕ)). slice_index_or ks id.0 None) keys ∙ left id in
    elim (left_or_none purged.entries (number_under mid id)) [
      | inl none ↦ inl (same ∙ none)
      | inr is ↦ elim (kept id) [
        | inl none ↦ inl (same ∙ (is ∙ none))
        | inr was ↦ inr (same ∙ (is ∙ was))
      ]
    ]
