-- Members of lists, and distinct numbers.
use Rattle.std.proofs.Common.{◌≡◌, ℕ, ◌&&◌, ◌||◌, Bool, true, false, cond, List, [], ◌∷◌, map, filter, refl, ap, sym, subst, ◌∙◌, inl, inr, suc, take, zero, ◌⊎◌, ◌≤◌, ◌==◌, ◌++◌, All, None, Option, Some, not, arith, is_some, length, nat_eq}
use Rattle.std.specs.List.{list_any, AllByRecursion, IsDistinct, cons_option, filter_map, list_all}
use Rattle.ep_machine.specs.Lists.{is_among, is_empty, are_distinct}
use Rattle.ep_law.specs.Laws.{Member}
use Rattle.std.proofs.lemmas.Bool.{cases_Bool, false_from_ne_true}
use Rattle.ep_facts.proofs.NatFacts.{from_test, not_apart, same_test}
use Rattle.ep_facts.proofs.AmongFacts.{among_append}
use Rattle.ep_facts.proofs.BoolFacts.{first_of_and, not_and, or_left, or_right, second_of_and}
use Rattle.ep_machine.specs.Report.{find_watch}
use Rattle.ep_machine.specs.State.{Watch}

-- Members of lists.

pub any_same : {X : Type 0} (f g : X → Bool) (xs : List X) → ((x : X) → Member x xs → f x ≡ g x) → list_any f xs ≡ list_any g xs
any_same f g [] h = refl
any_same f g (x ∷ xs) h = let one = h x (inl refl) in let rest = any_same f g xs (λ y m. h y (inr m)) in λ i. one i || rest i

pub any_has : {X : Type 0} (p : X → Bool) (xs : List X) (x : X) → Member x xs → p x ≡ true → list_any p xs ≡ true
any_has p [] x m h = absurd m
any_has p (y ∷ ys) x (inl e) h = or_left (p y) (list_any p ys) (ap p (sym e) ∙ h)
any_has p (y ∷ ys) x (inr m) h = or_right (p y) (list_any p ys) (any_has p ys x m h)

pub member_split : {X : Type 0} (x : X) (xs ys : List X) → Member x (xs ++ ys) → Member x xs ⊎ Member x ys
member_split x [] ys m = inr m
member_split x (y ∷ xs) ys (inl e) = inl (inl e)
member_split x (y ∷ xs) ys (inr m) = elim (member_split x xs ys m) [ inl a ↦ inl (inr a) | inr b ↦ inr b ]

pub taken_member : {X : Type 0} (n : ℕ) (xs : List X) (x : X) → Member x (take n xs) → Member x xs
taken_member zero xs x m = absurd m
taken_member (suc n) [] x m = m
taken_member (suc n) (y ∷ ys) x (inl e) = inl e
taken_member (suc n) (y ∷ ys) x (inr m) = inr (taken_member n ys x m)

pub member_map : {X Y : Type 0} (f : X → Y) (x : X) (xs : List X) → Member x xs → Member (f x) (map f xs)
member_map f x [] m = absurd m
member_map f x (y ∷ ys) (inl e) = inl (ap f e)
member_map f x (y ∷ ys) (inr m) = inr (member_map f x ys m)

pub member_filter : {X : Type 0} (p : X → Bool) (x : X) (xs : List X) → Member x xs → p x ≡ true → Member x (filter p xs)
member_filter p x [] m t = absurd m
member_filter p x (y ∷ ys) (inl e) t =
    let at : p y ≡ true = ap p (sym e) ∙ t in
    subst (λ (b : Bool). Member x (cond b (y ∷ filter p ys) (filter p ys))) (sym at) (inl e)
member_filter p x (y ∷ ys) (inr m) t =
    let rest = member_filter p x ys m t in
    elim (p y) as (λ b. Member x (cond b (y ∷ filter p ys) (filter p ys))) [ true ↦ inr rest | false ↦ rest ]

pub among : (k : ℕ) (ks : List ℕ) → Member k ks → is_among ks k ≡ true
among k [] m = absurd m
among k (x ∷ ks) (inl e) = or_left _ _ (same_test k x e)
among k (x ∷ ks) (inr m) = or_right _ _ (among k ks m)

pub not_empty : {X : Type 0} (x : X) (xs : List X) → Member x xs → is_empty xs ≡ true → ⊥
not_empty x [] m t = m
not_empty x (y ∷ ys) m t = cc

-- a member that passes the test
pub any_member : {X : Type 0} (f : X → Bool) (xs : List X) → list_any f xs ≡ true → (x : X) × Member x xs × (f x ≡ true)
any_member f [] t = cc
any_member {X} f (x ∷ xs) t =
    let Q : Bool → Type 0 = λ b. f x ≡ b → (b || list_any f xs) ≡ true → (y : X) × Member y (x ∷ xs) × (f y ≡ true) in
    let one : (b : Bool) → Q b = λ b. elim b as Q [
      | true ↦ λ e u. (x, inl refl, e)
      | false ↦ λ e u. let some = any_member f xs u in (some.0, inr some.1, some.2)
    ] in
    one (f x) refl t

-- Members and distinct numbers.

pub among_member : (ks : List ℕ) (k : ℕ) → is_among ks k ≡ true → Member k ks
among_member [] k h = cc
among_member (x ∷ ks) k h = elim (cases_Bool (k == x)) [
  | inl t ↦ inl (from_test k x t)
  | inr f ↦ inr (among_member ks k (sym (ap (λ (b : Bool). b || is_among ks k) f) ∙ h))
]

pub filtered_member : {X : Type 0} (p : X → Bool) (xs : List X) (x : X) → Member x (filter p xs) → Member x xs
filtered_member p [] x m = m
filtered_member p (y ∷ ys) x m =
    elim (p y) as (λ b. Member x (cond b (y ∷ filter p ys) (filter p ys)) → Member x (y ∷ ys)) [
      | true ↦ λ n. elim n [ inl e ↦ inl e | inr r ↦ inr (filtered_member p ys x r) ]
      | false ↦ λ n. inr (filtered_member p ys x n)
    ] m

pub filtered_passes : {X : Type 0} (p : X → Bool) (xs : List X) (x : X) → Member x (filter p xs) → p x ≡ true
filtered_passes p [] x m = absurd m
filtered_passes p (y ∷ ys) x m =
    elim (p y) as (λ b. p y ≡ b → Member x (cond b (y ∷ filter p ys) (filter p ys)) → p x ≡ true) [
      | true ↦ λ t n. elim n [ inl e ↦ ap p e ∙ t | inr r ↦ filtered_passes p ys x r ]
      | false ↦ λ f n. filtered_passes p ys x n
    ] refl m

pub all_member : {X : Type 0} (P : X → Type 0) (xs : List X) (x : X) → All P xs → Member x xs → P x
all_member P [] x h m = absurd m
all_member P (y ∷ ys) x h (inl e) = subst P (sym e) (h 0 y (omega arith))
all_member P (y ∷ ys) x h (inr m) = all_member P ys x (λ k d lt. h (suc k) d (omega arith)) m

pub list_all_member : {X : Type 0} (p : X → Bool) (xs : List X) (x : X) → list_all p xs ≡ true → Member x xs → p x ≡ true
list_all_member p [] x h m = absurd m
list_all_member p (y ∷ ys) x h (inl e) = ap p e ∙ first_of_and (p y) (list_all p ys) h
list_all_member p (y ∷ ys) x h (inr m) = list_all_member p ys x (second_of_and (p y) (list_all p ys) h) m

pub mapped_member : (f : Watch → ℕ) (xs : List Watch) (k : ℕ) → Member k (map f xs) → (x : Watch) × Member x xs × (f x ≡ k)
mapped_member f [] k m = absurd m
mapped_member f (y ∷ ys) k (inl e) = (y, inl refl, sym e)
mapped_member f (y ∷ ys) k (inr m) = let r = mapped_member f ys k m in (r.0, inr r.1, r.2)

-- the registration that is found
pub find_member : (xs : List Watch) (k : ℕ) (x : Watch) → find_watch xs k ≡ Some x → Member x xs × (x.number ≡ k)
find_member [] k x h = cc
find_member (y ∷ ys) k x h = elim (cases_Bool (y.number == k)) [
  | inl t ↦
      let same : Some y ≡ Some x = sym (ap (λ (b : Bool). cond b (Some y) (find_watch ys k)) t) ∙ h in
      let e : x ≡ y = cc in
      (inl e, ap (λ (w : Watch). w.number) e ∙ from_test y.number k t)
  | inr f ↦ let r = find_member ys k x (sym (ap (λ (b : Bool). cond b (Some y) (find_watch ys k)) f) ∙ h) in (inr r.0, r.1)
]

-- what is found for a member
pub found_member : (h : ℕ → Option Watch) (ks : List ℕ) (k : ℕ) (x : Watch) → Member k ks → h k ≡ Some x → Member x (filter_map h ks)
found_member h [] k x m e = absurd m
found_member h (j ∷ ks) k x (inl same) e =
    subst (λ (o : Option Watch). Member x (cons_option o (filter_map h ks))) (sym (ap h (sym same) ∙ e)) (inl refl)
found_member h (j ∷ ks) k x (inr m) e =
    let rest = found_member h ks k x m e in
    elim (h j) as (λ o. Member x (cons_option o (filter_map h ks))) [ None ↦ rest | Some y ↦ inr rest ]

shorter : (h : ℕ → Option Watch) (ks : List ℕ) → length (filter_map h ks) ≤ length ks
shorter h [] = omega arith
shorter h (k ∷ ks) = let rest = shorter h ks in elim (h k) as (λ o. length (cons_option o (filter_map h ks)) ≤ length (k ∷ ks)) [ None ↦ omega (arith, rest) | Some y ↦ omega (arith, rest) ]

-- as many are found as are sought, so each is found
pub each_found : (h : ℕ → Option Watch) (ks : List ℕ) (k : ℕ) → length (filter_map h ks) ≡ length ks → Member k ks → is_some (h k) ≡ true
each_found h [] k e m = absurd m
each_found h (j ∷ ks) k e m =
    let less = shorter h ks in
    let Q : Option Watch → Type 0 = λ o. h j ≡ o → length (cons_option o (filter_map h ks)) ≡ suc (length ks) → is_some (h k) ≡ true in
    let one : (o : Option Watch) → Q o = λ o. elim o as Q [
      | None ↦ λ is long. absurd (omega (arith, long, less))
      | Some y ↦ λ is long. elim m [ inl same ↦ ap (λ (i : ℕ). is_some (h i)) same ∙ ap is_some is | inr n ↦ each_found h ks k (omega (arith, long)) n ]
    ] in
    one (h j) refl e

apart_member : (n : ℕ) (xs : List Watch) (y : Watch) → AllByRecursion (λ k. nat_eq n k ≡ false) (map (λ x. x.number) xs) → Member y xs → nat_eq n y.number ≡ false
apart_member n [] y h m = absurd m
apart_member n (x ∷ xs) y h (inl e) = ap (λ (w : Watch). nat_eq n w.number) e ∙ h.0
apart_member n (x ∷ xs) y h (inr m) = apart_member n xs y h.1 m

-- a number has one registration
pub one_number : (xs : List Watch) (x y : Watch) → IsDistinct nat_eq (map (λ w. w.number) xs) → Member x xs → Member y xs → x.number ≡ y.number → x ≡ y
unfolding IsDistinct
one_number [] x y h m n e = absurd m
one_number (w ∷ xs) x y h (inl a) (inl b) e = a ∙ sym b
one_number (w ∷ xs) x y h (inl a) (inr n) e = absurd (not_apart w.number y.number (apart_member w.number xs y h.0 n) (sym (ap (λ (z : Watch). z.number) a) ∙ e))
one_number (w ∷ xs) x y h (inr m) (inl b) e = absurd (not_apart w.number x.number (apart_member w.number xs x h.0 m) (sym (ap (λ (z : Watch). z.number) b) ∙ sym e))
one_number (w ∷ xs) x y h (inr m) (inr n) e = one_number xs x y h.1 m n e

is_not : (a b : Bool) → (not a && b) ≡ true → a ≡ false
is_not true b h = cc
is_not false b h = refl

false_is_true : (a : Bool) → a ≡ false → a ≡ true → ⊥
false_is_true a h k = let e : false ≡ true = sym h ∙ k in cc

pub distinct_filtered : (p : ℕ → Bool) (ks : List ℕ) → are_distinct ks ≡ true → are_distinct (filter p ks) ≡ true
distinct_filtered p [] h = refl
distinct_filtered p (k ∷ ks) h =
    let rest = distinct_filtered p ks (second_of_and (not (is_among ks k)) (are_distinct ks) h) in
    let new = is_not (is_among ks k) (are_distinct ks) h in
    let fresh : is_among (filter p ks) k ≡ false = false_from_ne_true _ (λ t. false_is_true _ new (among k ks (filtered_member p ks k (among_member (filter p ks) k t)))) in
    elim (p k) as (λ b. are_distinct (cond b (k ∷ filter p ks) (filter p ks)) ≡ true) [ true ↦ not_and _ _ fresh rest | false ↦ rest ]

pub distinct_append : (xs ys : List ℕ) → are_distinct xs ≡ true → are_distinct ys ≡ true → ((k : ℕ) → is_among xs k ≡ true → is_among ys k ≡ true → ⊥) → are_distinct (xs ++ ys) ≡ true
distinct_append [] ys h k apart = k
distinct_append (x ∷ xs) ys h k apart =
    let rest = distinct_append xs ys (second_of_and (not (is_among xs x)) (are_distinct xs) h) k (λ j a b. apart j (among j (x ∷ xs) (inr (among_member xs j a))) b) in
    let here : is_among (x ∷ xs) x ≡ true = among x (x ∷ xs) (inl refl) in
    let new : is_among (xs ++ ys) x ≡ false = among_append xs ys x ∙ (ap (λ (b : Bool). b || is_among ys x) (is_not (is_among xs x) (are_distinct xs) h) ∙ false_from_ne_true _ (λ t. apart x here t)) in
    not_and _ _ new rest
