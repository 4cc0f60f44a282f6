-- The keys of the queue from its last item on, and their numbers.
use Rattle.std.proofs.Common.{List, Option, Some, [], ap, map, sym, refl, ◌++◌, ◌∙◌, ◌∷◌, ◌≡◌, ℕ}
use Rattle.std.proofs.lemmas.List.{map-append}
use Rattle.ep_base.specs.declared.ids.DescId.{DescId}
use Rattle.ep_table.specs.DyingKeys.{queued_keys}
use Rattle.ep_table.specs.Stored.{AllKeyed, queued}
use Rattle.ep_table.specs.Value.{number_at}
use Rattle.ep_table.specs.declared.words.Dying.{Dying}

pub queued_last : (rest : List Dying) (x : Dying) → queued_keys (rest ++ x ∷ []) ≡ x.key ∷ queued_keys rest
queued_last [] x = refl
queued_last (y ∷ rest) x = ap (λ (ids : List DescId). ids ++ y.key ∷ []) (queued_last rest x)

pub numbers_queued : (keys : List (Option ℕ)) (xs : List Dying) → AllKeyed keys xs → map (number_at keys) (queued_keys xs) ≡ map Some (queued xs)
numbers_queued keys [] h = refl
numbers_queued keys (x ∷ rest) h =
    map-append (number_at keys) (queued_keys rest) (x.key ∷ [])
    ∙ ((λ i. numbers_queued keys rest h.1 i ++ h.0 i ∷ []) ∙ sym (map-append Some (queued rest) (x.number ∷ [])))
