-- The turns of an order, one after another.
use Rattle.std.proofs.Common.{◌∙◌, List, None, Option, Some, [], ap, append-nil, append_assoc, arith, drop, flat_map, length, map, option_map, refl, suc, sym, zero, ℕ, ◌+◌, ◌++◌, ◌≡◌, ◌≤◌, ◌∷◌}
use Rattle.std.specs.List.{range_with_len, slice_get, zip}
use Rattle.std.proofs.lemmas.List.{drop_more, flat_map_more}
use Rattle.std.proofs.lemmas.Option.{get_or_from_slice_get, slice_get_past, slice_get_within}
use Rattle.ep_orders.proofs.ListLemmas.{range_next}

pub zip_at : {A B : Type 0} (xs : List A) (ys : List B) (i : ℕ) (x : A) (y : B) → slice_get xs i ≡ Some x → slice_get ys i ≡ Some y → slice_get (zip xs ys) i ≡ Some (x, y)
zip_at [] ys i x y e f = absurd (cc)
zip_at (a ∷ xs) [] i x y e f = absurd (cc)
zip_at (a ∷ xs) (b ∷ ys) zero x y e f = let same : a ≡ x = cc in let like : b ≡ y = cc in rw (same, like) refl
zip_at (a ∷ xs) (b ∷ ys) (suc i) x y e f = zip_at xs ys i x y e f

pub zip_first_ends : {A B : Type 0} (xs : List A) (ys : List B) (i : ℕ) → slice_get xs i ≡ None → slice_get (zip xs ys) i ≡ None
zip_first_ends [] ys i e = refl
zip_first_ends (a ∷ xs) [] i e = refl
zip_first_ends (a ∷ xs) (b ∷ ys) zero e = absurd (cc)
zip_first_ends (a ∷ xs) (b ∷ ys) (suc i) e = zip_first_ends xs ys i e

pub zip_second_ends : {A B : Type 0} (xs : List A) (ys : List B) (i : ℕ) → slice_get ys i ≡ None → slice_get (zip xs ys) i ≡ None
zip_second_ends [] ys i e = refl
zip_second_ends (a ∷ xs) [] i e = refl
zip_second_ends (a ∷ xs) (b ∷ ys) zero e = absurd (cc)
zip_second_ends (a ∷ xs) (b ∷ ys) (suc i) e = zip_second_ends xs ys i e

pub zip_past : {A B : Type 0} (xs : List A) (ys : List B) (i : ℕ) → length xs ≤ i → slice_get (zip xs ys) i ≡ None
zip_past xs ys i past = zip_first_ends xs ys i (slice_get_past xs i past)

-- ---- what is left from a place on

pub left_at : {A : Type 0} (xs : List A) (i : ℕ) (x : A) → slice_get xs i ≡ Some x → drop i xs ≡ x ∷ drop (i + 1) xs
left_at xs i x e = drop_more xs i x (slice_get_within xs i x e) ∙ ap (λ y. y ∷ drop (i + 1) xs) (get_or_from_slice_get xs i x x e)

pub left_past : {A : Type 0} (xs : List A) (i : ℕ) → slice_get xs i ≡ None → drop i xs ≡ []
left_past [] zero e = refl
left_past [] (suc i) e = refl
left_past (x ∷ xs) zero e = absurd (cc)
left_past (x ∷ xs) (suc i) e = left_past xs i e

-- ---- a text of each, behind a text

pub texts_next : {A : Type 0} (f : A → List ℕ) (xs : List A) (i : ℕ) (x : A) (now next whole : List ℕ) → slice_get xs i ≡ Some x → next ≡ now ++ f x
    → now ++ flat_map f (drop i xs) ≡ whole → next ++ flat_map f (drop (i + 1) xs) ≡ whole
texts_next f xs i x now next whole at grown before =
    ap (λ t. t ++ flat_map f (drop (i + 1) xs)) grown ∙ (append_assoc now (f x) (flat_map f (drop (i + 1) xs))
    ∙ (ap (λ ys. now ++ flat_map f ys) (sym (left_at xs i x at)) ∙ before))

pub texts_end : {A : Type 0} (f : A → List ℕ) (xs : List A) (i : ℕ) (now whole : List ℕ) → slice_get xs i ≡ None
    → now ++ flat_map f (drop i xs) ≡ whole → now ≡ whole
texts_end f xs i now whole past before =
    sym (append-nil now) ∙ (ap (λ ys. now ++ flat_map f ys) (sym (left_past xs i past)) ∙ before)

-- ---- one of each

pub each_next : {A B : Type 0} (f : A → B) (xs : List A) (i : ℕ) (x : A) (now next : List B) (whole : List B) → slice_get xs i ≡ Some x → next ≡ now ++ f x ∷ []
    → now ++ map f (drop i xs) ≡ whole → next ++ map f (drop (i + 1) xs) ≡ whole
each_next f xs i x now next whole at grown before =
    ap (λ t. t ++ map f (drop (i + 1) xs)) grown ∙ (append_assoc now (f x ∷ []) (map f (drop (i + 1) xs))
    ∙ (ap (λ ys. now ++ map f ys) (sym (left_at xs i x at)) ∙ before))

pub each_end : {A B : Type 0} (f : A → B) (xs : List A) (i : ℕ) (now whole : List B) → slice_get xs i ≡ None
    → now ++ map f (drop i xs) ≡ whole → now ≡ whole
each_end f xs i now whole past before =
    sym (append-nil now) ∙ (ap (λ ys. now ++ map f ys) (sym (left_past xs i past)) ∙ before)

-- ---- a text for each number

pub numbers_next : (f : ℕ → List ℕ) (n : ℕ) (now one end next : List ℕ) → now ≡ flat_map f (range_with_len 0 n) → f n ≡ one ++ end → next ≡ (now ++ one) ++ end
    → next ≡ flat_map f (range_with_len 0 (n + 1))
numbers_next f n now one end next before is grown =
    grown ∙ (append_assoc now one end ∙ (ap (λ t. now ++ t) (sym is) ∙ (ap (λ t. t ++ f n) before
    ∙ (flat_map_more f [] (range_with_len 0 n) n ∙ ap (flat_map f) (sym (range_next n))))))

-- ---- what a look at a place gave

pub some_at : {A B : Type 0} (f : A → B) (o : Option A) (r : Option B) (x : A) → option_map f o ≡ r → o ≡ Some x → r ≡ Some (f x)
some_at f o r x e is = sym e ∙ ap (option_map f) is

pub none_at : {A B : Type 0} (f : A → B) (o : Option A) (r : Option B) → option_map f o ≡ r → o ≡ None → r ≡ None
none_at f o r e is = sym e ∙ ap (option_map f) is
