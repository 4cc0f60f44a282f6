-- Lists of numbers and of turns.
use Rattle.std.proofs.Common.{◌≡◌, ◌≢◌, ◌++◌, ◌∷◌, ◌+◌, ◌<◌, ◌||◌, ◌∙◌, ◌⊎◌, [], Bool, Contains, List, Some, ap, arith, cond, false, filter, flat_map, inl, inr, length, refl, subst, suc, sym, true, zero, ℕ}
use Rattle.std.specs.List.{AllByRecursion, list_any, range_with_len, slice_get}
use Rattle.std.proofs.lemmas.List.Elements.{Contains-append_cases, Contains-append_left, Contains-append_right, Contains-push, Contains-push_cases}
use Rattle.std.proofs.lemmas.List.Folds.{list_any-append}
use Rattle.std.proofs.Math.Bool.{or-true}

pub range_more : (a n j : ℕ) → a + n ≡ j → range_with_len a (suc n) ≡ range_with_len a n ++ j ∷ []
range_more a zero j e = ap (λ k. k ∷ []) (omega arith)
range_more a (suc n) j e = ap (λ ks. a ∷ ks) (range_more (a + 1) n j (omega arith))

pub range_next : (n : ℕ) → range_with_len 0 (n + 1) ≡ range_with_len 0 n ++ n ∷ []
range_next n = let e : n + 1 ≡ suc n = omega arith in ap (range_with_len 0) e ∙ range_more 0 n n (omega arith)

-- ---- a test of some number

pub any_more : (f : ℕ → Bool) (n : ℕ) → list_any f (range_with_len 0 n) ≡ false → f n ≡ false → list_any f (range_with_len 0 (n + 1)) ≡ false
any_more f n below here =
    ap (list_any f) (range_next n) ∙ (list_any-append f (range_with_len 0 n) (n ∷ []) ∙ (ap (λ b. b || (f n || false)) below ∙ ap (λ b. b || false) here))

pub any_from : (f : ℕ → Bool) (a n i : ℕ) → i < n → f (a + i) ≡ true → list_any f (range_with_len a n) ≡ true
any_from f a zero i lt here = absurd (omega arith)
any_from f a (suc n) zero lt here = ap (λ b. b || list_any f (range_with_len (a + 1) n)) (ap f (omega arith) ∙ here)
any_from f a (suc n) (suc i) lt here =
    ap (λ b. f a || b) (any_from f (a + 1) n i (omega arith) (ap f (omega arith) ∙ here)) ∙ or-true (f a)

-- ---- what a list contains

pub contains_head : {X : Type 0} (x : X) (xs : List X) → Contains (x ∷ xs) x
contains_head x xs = Contains-append_left (x ∷ []) xs x (Contains-push [] x)

pub contains_nothing : {X : Type 0} (x : X) → Contains [] x → ⊥
contains_nothing x h = absurd (omega (arith, h.1))

pub contains_cases : {X : Type 0} (y : X) (ys : List X) (x : X) → Contains (y ∷ ys) x → (y ≡ x) ⊎ Contains ys x
contains_cases y ys x h =
    elim (Contains-append_cases (y ∷ []) ys x h) [
      | inl one ↦ elim (Contains-push_cases [] y x one) [ inl none ↦ absurd (contains_nothing x none) | inr e ↦ inl e ]
      | inr more ↦ inr more
    ]

grown_by : {X : Type 0} (b : Bool) (y : X) (zs : List X) (x : X) → Contains zs x → Contains (cond b (y ∷ zs) zs) x
grown_by true y zs x h = Contains-append_right (y ∷ []) zs x h
grown_by false y zs x h = h

head_by : {X : Type 0} (b : Bool) (x : X) (zs : List X) → b ≡ true → Contains (cond b (x ∷ zs) zs) x
head_by true x zs e = contains_head x zs
head_by false x zs e = absurd (cc)

pub contains_filter : {X : Type 0} (p : X → Bool) (xs : List X) (x : X) → p x ≡ true → Contains xs x → Contains (filter p xs) x
contains_filter p [] x passes h = absurd (contains_nothing x h)
contains_filter {X} p (y ∷ ys) x passes h =
    elim (contains_cases y ys x h) [
      | inl e ↦ subst (λ (z : X). Contains (cond (p z) (z ∷ filter p ys) (filter p ys)) x) (sym e) (head_by (p x) x (filter p ys) passes)
      | inr more ↦ grown_by (p y) y (filter p ys) x (contains_filter p ys x passes more)
    ]

pub contains_flat_map : {X Y : Type 0} (f : X → List Y) (xs : List X) (x : X) (y : Y) → Contains (f x) y → Contains xs x → Contains (flat_map f xs) y
contains_flat_map f [] x y there h = absurd (contains_nothing x h)
contains_flat_map {X} {Y} f (z ∷ zs) x y there h =
    elim (contains_cases z zs x h) [
      | inl e ↦ Contains-append_left (f z) (flat_map f zs) y (subst (λ (v : X). Contains (f v) y) (sym e) there)
      | inr more ↦ Contains-append_right (f z) (flat_map f zs) y (contains_flat_map f zs x y there more)
    ]

pub contains_range : (a n i : ℕ) → i < n → Contains (range_with_len a n) (a + i)
contains_range a zero i lt = absurd (omega arith)
contains_range a (suc n) zero lt = subst (Contains (a ∷ range_with_len (a + 1) n)) (omega arith) (contains_head a (range_with_len (a + 1) n))
contains_range a (suc n) (suc i) lt =
    subst (Contains (a ∷ range_with_len (a + 1) n)) (omega arith) (Contains-append_right (a ∷ []) (range_with_len (a + 1) n) (a + 1 + i) (contains_range (a + 1) n i (omega arith)))

-- what is contained stands somewhere
pub record At {X : Type 0} (xs : List X) (x : X) : Type 0 where
  pub place : ℕ
  pub within : place < length xs
  pub is : slice_get xs place ≡ Some x

pub at_contained : {X : Type 0} (xs : List X) (x : X) → Contains xs x → At xs x
at_contained [] x h = absurd (contains_nothing x h)
at_contained (y ∷ ys) x h =
    elim (contains_cases y ys x h) [
      | inl e ↦ record { place = 0; within = omega arith; is = ap (λ z. Some z) e }
      | inr more ↦ let below = at_contained ys x more in record { place = suc below.place; within = omega (arith, below.within); is = below.is }
    ]

-- ---- what stands at a place

get_by : {X : Type 0} (p : X → Bool) (b : Bool) (y : X) (ys : List X) (i : ℕ) (x : X) → p y ≡ b
    → ((i : ℕ) → slice_get (filter p ys) i ≡ Some x → p x ≡ true) → slice_get (cond b (y ∷ filter p ys) (filter p ys)) i ≡ Some x → p x ≡ true
get_by p false y ys i x test below e = below i e
get_by p true y ys zero x test below e = let same : y ≡ x = cc in subst (λ z. p z ≡ true) same test
get_by p true y ys (suc i) x test below e = below i e

pub get_filter : {X : Type 0} (p : X → Bool) (xs : List X) (i : ℕ) (x : X) → slice_get (filter p xs) i ≡ Some x → p x ≡ true
get_filter p [] i x e = absurd (cc)
get_filter p (y ∷ ys) i x e = get_by p (p y) y ys i x refl (λ j h. get_filter p ys j x h) e

-- ---- lists without an element twice

abbrev pub Apart : {X : Type 0} → List X → Type 0
Apart [] = Unit {0}
Apart (x ∷ xs) = AllByRecursion (λ y. x ≢ y) xs × Apart xs

all_get : {X : Type 0} (P : X → Type 0) (xs : List X) (i : ℕ) (x : X) → AllByRecursion P xs → slice_get xs i ≡ Some x → P x
all_get P [] i x all e = absurd (cc)
all_get P (y ∷ ys) zero x all e = let same : y ≡ x = cc in subst P same all.0
all_get P (y ∷ ys) (suc i) x all e = all_get P ys i x all.1 e

pub apart_get : {X : Type 0} (xs : List X) (i j : ℕ) (x : X) → Apart xs → slice_get xs i ≡ Some x → slice_get xs j ≡ Some x → i ≡ j
apart_get [] i j x apart e f = absurd (cc)
apart_get (y ∷ ys) zero zero x apart e f = refl
apart_get (y ∷ ys) zero (suc j) x apart e f = let same : y ≡ x = cc in absurd (all_get (λ z. y ≢ z) ys j x apart.0 f same)
apart_get (y ∷ ys) (suc i) zero x apart e f = let same : y ≡ x = cc in absurd (all_get (λ z. y ≢ z) ys i x apart.0 e same)
apart_get (y ∷ ys) (suc i) (suc j) x apart e f = ap (λ k. suc k) (apart_get ys i j x apart.1 e f)

all_by : {X : Type 0} (P : X → Type 0) (b : Bool) (y : X) (ys : List X) → P y → AllByRecursion P ys → AllByRecursion P (cond b (y ∷ ys) ys)
all_by P true y ys here more = (here, more)
all_by P false y ys here more = more

all_filter : {X : Type 0} (P : X → Type 0) (p : X → Bool) (xs : List X) → AllByRecursion P xs → AllByRecursion P (filter p xs)
all_filter P p [] all = tt
all_filter P p (x ∷ xs) all = all_by P (p x) x (filter p xs) all.0 (all_filter P p xs all.1)

apart_by : {X : Type 0} (b : Bool) (y : X) (ys : List X) → AllByRecursion (λ z. y ≢ z) ys → Apart ys → Apart (cond b (y ∷ ys) ys)
apart_by true y ys first more = (first, more)
apart_by false y ys first more = more

pub apart_filter : {X : Type 0} (p : X → Bool) (xs : List X) → Apart xs → Apart (filter p xs)
apart_filter p [] apart = tt
apart_filter p (x ∷ xs) apart = apart_by (p x) x (filter p xs) (all_filter (λ z. x ≢ z) p xs apart.0) (apart_filter p xs apart.1)

pub all_append : {X : Type 0} (P : X → Type 0) (xs ys : List X) → AllByRecursion P xs → AllByRecursion P ys → AllByRecursion P (xs ++ ys)
all_append P [] ys all more = more
all_append P (x ∷ xs) ys all more = (all.0, all_append P xs ys all.1 more)

-- each of the one differs from each of the other
pub apart_append : {X : Type 0} (xs ys : List X) → Apart xs → Apart ys → AllByRecursion (λ x. AllByRecursion (λ y. x ≢ y) ys) xs → Apart (xs ++ ys)
apart_append [] ys apart more cross = more
apart_append (x ∷ xs) ys apart more cross =
    (all_append (λ y. x ≢ y) xs ys apart.0 cross.0, apart_append xs ys apart.1 more cross.1)
