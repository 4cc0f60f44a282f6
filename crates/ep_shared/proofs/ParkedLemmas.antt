-- Which of n callers pass a test.
use Rattle.std.proofs.Common.{◌≡◌, ◌+◌, ◌++◌, ◌∷◌, ◌∙◌, ℕ, Bool, List, [], ap, cond, filter, sym}
use Rattle.std.specs.List.{range_with_len}
use Rattle.std.proofs.lemmas.List.{map-id}
use Rattle.std.proofs.lemmas.List.FromFn.{filter_of_map_range_with_len_more}

pub among_more : (p : ℕ → Bool) (a n j : ℕ) (b : Bool) → a + n ≡ j → p j ≡ b → filter p (range_with_len a (n + 1)) ≡ filter p (range_with_len a n) ++ cond b (j ∷ []) []
among_more p a n j b at is =
    ap (filter p) (sym (map-id (range_with_len a (n + 1))))
    ∙ (filter_of_map_range_with_len_more p (λ x. x) a n j at
    ∙ (ap (λ (xs : List ℕ). filter p xs ++ cond (p j) (j ∷ []) []) (map-id (range_with_len a n)) ∙ ap (λ (c : Bool). filter p (range_with_len a n) ++ cond c (j ∷ []) []) is))
