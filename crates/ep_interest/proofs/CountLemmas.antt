-- A count of what stands at keys follows from the reads alone, which is what a slab's insert tells.
use Rattle.std.proofs.Common.{◌≡◌, ℕ, suc, Bool, false, cond, List, [], ◌∷◌, get_or, Option, None, refl, sym, ap, ◌∙◌, arith, count_by}
use Rattle.std.proofs.lemmas.List.Sums.{sum_by-cons}

pub count_alike : {X : Type 0} (p : Option X → Bool) → p None ≡ false → (xs ys : List (Option X)) → ((k : ℕ) → p (get_or xs k None) ≡ p (get_or ys k None)) → count_by p xs ≡ count_by p ys
count_alike p n [] [] h = refl
count_alike p n (x ∷ xs) [] h =
    let here : p x ≡ false = h 0 ∙ n in
    let one : cond {A = ℕ} (p x) 1 0 ≡ 0 = rw here refl in
    omega (arith, one, sum_by-cons (λ o. cond (p o) 1 0) x xs, count_alike p n xs [] (λ k. h (suc k)))
count_alike p n [] (y ∷ ys) h =
    let here : p y ≡ false = sym (h 0) ∙ n in
    let one : cond {A = ℕ} (p y) 1 0 ≡ 0 = rw here refl in
    omega (arith, one, sum_by-cons (λ o. cond (p o) 1 0) y ys, count_alike p n [] ys (λ k. h (suc k)))
count_alike p n (x ∷ xs) (y ∷ ys) h =
    let same : cond {A = ℕ} (p x) 1 0 ≡ cond (p y) 1 0 = ap (λ b. cond {A = ℕ} b 1 0) (h 0) in
    omega (arith, same, sum_by-cons (λ o. cond (p o) 1 0) x xs, sum_by-cons (λ o. cond (p o) 1 0) y ys, count_alike p n xs ys (λ k. h (suc k)))
