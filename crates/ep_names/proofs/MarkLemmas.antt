-- Marks that are added.
use Rattle.std.proofs.Common.{Bool, List, [], ap, false, length, refl, replicate, suc, take, zero, ℕ, ◌++◌, ◌∙◌, ◌∷◌, ◌≡◌, ◌≤◌}
use Rattle.std.proofs.lemmas.List.{take_all}
use Rattle.ep_names.specs.Numbers.{is_marked}

-- marks that aren't set are as none
marks_more : (marks : List Bool) (n block : ℕ) → is_marked (marks ++ replicate n false) block ≡ is_marked marks block
marks_more [] zero block = refl
marks_more [] (suc n) zero = refl
marks_more [] (suc n) (suc block) = marks_more [] n block
marks_more (m ∷ marks) n zero = refl
marks_more (m ∷ marks) n (suc block) = marks_more marks n block

pub marks_resized : (old new : List Bool) (most n : ℕ) → length old ≤ most → new ≡ take most old ++ replicate n false
    → (block : ℕ) → is_marked new block ≡ is_marked old block
marks_resized old new most n few is block =
    ap (λ xs. is_marked xs block) (is ∙ ap (λ xs. xs ++ replicate n false) (take_all most old few)) ∙ marks_more old n block
