-- Asking what a walk reached, one after another.
use Rattle.std.proofs.Common.{◌≡◌, ◌∙◌, ◌++◌, ◌+◌, ◌<◌, ◌≤◌, ◌==◌, ◌||◌, ℕ, zero, suc, Bool, true, false, List, [], ◌∷◌, None, Option, Some, ap, append_assoc, cond, find, get_or, inl, inr, length, refl, slice_get, sym, take, take_all, unwrap_or}
use Rattle.std.specs.List.{list_any}
use Rattle.std.proofs.lemmas.Bool.{cases_Bool, false≢true}
use Rattle.std.proofs.Math.Seq.{take-append_seam}
use Rattle.std.proofs.lemmas.List.{take_more}
use Rattle.std.proofs.lemmas.List.Recursion.{or_at, or_push}
use Rattle.std.proofs.lemmas.Option.{get_or_from_slice_get}
use Rattle.ep_facts.proofs.NatFacts.{from_test, same_nat}
use Rattle.ep_climb.specs.Reach.{IsClosed, IsGrown}
use Rattle.ep_machine.specs.Lists.{is_among}
use Rattle.ep_walk.specs.Walk.{Walk, with_reached}

pub at_place : (ks : List ℕ) (i k : ℕ) → slice_get ks i ≡ Some k → get_or ks i 0 ≡ k
at_place ks i k is = get_or_from_slice_get ks i k 0 is

module _ (p : ℕ → Bool) (ks : List ℕ) where
  any_more : (i : ℕ) → i < length ks → list_any p (take (i + 1) ks) ≡ (list_any p (take i ks) || p (get_or ks i 0))
  any_more i lt = ap (list_any p) (take_more ks i 0 lt) ∙ or_push (list_any p) p refl (λ x xs. refl) (take i ks) (get_or ks i 0)

  -- asked in vain
  pub vain_on : (i k : ℕ) → i < length ks → slice_get ks i ≡ Some k → list_any p (take i ks) ≡ false → p k ≡ false → list_any p (take (i + 1) ks) ≡ false
  vain_on i k lt is h none = any_more i lt ∙ (λ j. h j || (ap p (at_place ks i k is) ∙ none) j)

  pub vain_found : (i k : ℕ) → i < length ks → slice_get ks i ≡ Some k → p k ≡ true → list_any p ks ≡ true
  vain_found i k lt is found = or_at (list_any p) p refl (λ x xs. refl) ks i 0 lt (ap p (at_place ks i k is) ∙ found)

  pub vain_end : (i : ℕ) → length ks ≤ i → list_any p (take i ks) ≡ false → list_any p ks ≡ false
  vain_end i le h = sym (ap (list_any p) (take_all i ks le)) ∙ h

pub among_place : (ks : List ℕ) (i k : ℕ) → i < length ks → slice_get ks i ≡ Some k → is_among ks k ≡ true
among_place ks i k lt is = or_at (λ js. is_among js k) (λ j. k == j) refl (λ j js. refl) ks i 0 lt (ap (λ (j : ℕ). k == j) (at_place ks i k is) ∙ same_nat k)

-- A walk from nothing.
pub closed_none : (es : List (ℕ × ℕ)) (w : Walk) → w.reached ≡ [] → IsClosed es w.reached
closed_none es w none i j t up = absurd (false≢true (sym (ap (λ (ks : List ℕ). is_among ks j) none) ∙ t))

-- what a walk had reached is still asked in vain
pub still_vain : (p : ℕ → Bool) (old new : List ℕ) (n : ℕ) → IsGrown old new → n ≡ length old → list_any p old ≡ false → list_any p (take n new) ≡ false
still_vain p old new n grown is vain = (λ i. list_any p (take (is i) (grown.1 i))) ∙ (ap (list_any p) (take-append_seam old grown.0) ∙ vain)

-- Found first.
find_none : (p : ℕ → Bool) (ks : List ℕ) → list_any p ks ≡ false → find p ks ≡ None
find_none p [] h = refl
find_none p (k ∷ ks) h = by (p k) refl (find_none p ks) where
  by : (b : Bool) → p k ≡ b → (list_any p ks ≡ false → find p ks ≡ None) → cond b (Some k) (find p ks) ≡ None
  by true t rest = absurd (false≢true (sym h ∙ ap (λ (c : Bool). c || list_any p ks) t))
  by false f rest = rest (sym (ap (λ (c : Bool). c || list_any p ks) f) ∙ h)

pub find_end : (p : ℕ → Bool) (ks : List ℕ) (i : ℕ) → length ks ≤ i → list_any p (take i ks) ≡ false → find p ks ≡ None
find_end p ks i le h = find_none p ks (vain_end p ks i le h)

pub find_at : (p : ℕ → Bool) (ks : List ℕ) (i k : ℕ) → slice_get ks i ≡ Some k → list_any p (take i ks) ≡ false → p k ≡ true → find p ks ≡ Some k
find_at p [] i k is h t = absurd cc
find_at p (j ∷ ks) zero k is h t = let same : j ≡ k = ap (λ (o : Option ℕ). unwrap_or o j) is in ap (λ (b : Bool). cond b (Some j) (find p ks)) (ap p same ∙ t) ∙ ap (λ (m : ℕ). Some m) same
find_at p (j ∷ ks) (suc i) k is h t = by (p j) refl (λ none. find_at p ks i k is none t) where
  by : (b : Bool) → p j ≡ b → (list_any p (take i ks) ≡ false → find p ks ≡ Some k) → cond b (Some j) (find p ks) ≡ Some k
  by true y rest = absurd (false≢true (sym h ∙ ap (λ (c : Bool). c || list_any p (take i ks)) y))
  by false f rest = rest (sym (ap (λ (c : Bool). c || list_any p (take i ks)) f) ∙ h)

-- A key that is there already adds nothing to what is found first.
skipped : (q : ℕ → Bool) (i : ℕ) → q i ≡ false → (xs ys : List ℕ) → find q (xs ++ i ∷ ys) ≡ find q (xs ++ ys)
skipped q i f [] ys = ap (λ (b : Bool). cond b (Some i) (find q ys)) f
skipped q i f (x ∷ xs) ys = ap (λ (o : Option ℕ). cond (q x) (Some x) o) (skipped q i f xs ys)

there_already : (q : ℕ → Bool) (i : ℕ) (xs ys : List ℕ) → is_among xs i ≡ true → find q (xs ++ ys) ≡ find q (xs ++ i ∷ ys)
there_already q i [] ys h = absurd (false≢true h)
there_already q i (x ∷ xs) ys h = by (q x) refl (there_already q i xs ys) where
  by : (b : Bool) → q x ≡ b → (is_among xs i ≡ true → find q (xs ++ ys) ≡ find q (xs ++ i ∷ ys)) → cond b (Some x) (find q (xs ++ ys)) ≡ cond b (Some x) (find q (xs ++ i ∷ ys))
  by true t rest = refl
  by false f rest = elim (cases_Bool (i == x)) [
    | inl same ↦ sym (skipped q i (ap q (from_test i x same) ∙ f) xs ys)
    | inr apart ↦ rest (sym (ap (λ (c : Bool). c || is_among xs i) apart) ∙ h)
  ]

pub reached_alike : (q : ℕ → Bool) (i : ℕ) (w : Walk) (ys : List ℕ) → find q ((with_reached w i).reached ++ ys) ≡ find q (w.reached ++ i ∷ ys)
reached_alike q i w ys = by (is_among w.reached i) refl where
  by : (b : Bool) → is_among w.reached i ≡ b → find q ((cond b w (record w { reached = w.reached ++ i ∷ [] })).reached ++ ys) ≡ find q (w.reached ++ i ∷ ys)
  by true t = there_already q i w.reached ys t
  by false f = ap (find q) (append_assoc w.reached (i ∷ []) ys)
