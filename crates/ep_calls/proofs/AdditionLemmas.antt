-- The registration that is looked at when it was added or modified.
use Rattle.std.proofs.Common.{◌≡◌, ◌∙◌, ◌==◌, ◌||◌, ◌<◌, ℕ, All, Bool, true, false, List, [], ◌∷◌, Some, ap, cond, filter, find, inl, inr, refl, subst, sym}
use Rattle.std.specs.List.{AllByRecursion, list_any}
use Rattle.std.proofs.lemmas.Bool.{cases_Bool, false≢true}
use Rattle.std.proofs.lemmas.Option.{none-some}
use Rattle.std.proofs.lemmas.List.Elements.{All-head, All-tail}
use Rattle.std.proofs.Math.Bool.{or-false}
use Rattle.ep_facts.proofs.OptionFacts.{some_same}
use Rattle.ep_facts.proofs.NatFacts.{above_test, from_test}
use Rattle.ep_base.specs.declared.ids.DescId.{DescId}
use Rattle.ep_base.specs.declared.ids.Fd.{Fd}
use Rattle.ep_interest.specs.Registrations.{IsSound, Registrations, RisesFrom, has_key, numbered}
use Rattle.ep_interest.specs.declared.entry.Entry.{Entry}
use Rattle.ep_calls.proofs.FindLemmas.{has_number, rises_above}

-- none is looked at where there is none
pub none_looked : (p q : Entry → Bool) (xs : List Entry) → list_any p xs ≡ false → list_any q (filter p xs) ≡ false
none_looked p q [] h = refl
none_looked p q (x ∷ xs) h =
    elim (p x) as (λ b. (b || list_any p xs) ≡ false → list_any q (cond b (x ∷ filter p xs) (filter p xs)) ≡ false) [
      | true ↦ λ e. absurd (false≢true (sym e))
      | false ↦ λ e. none_looked p q xs e
    ] h

-- what is found passes what all pass
pub found_passes : (P : Entry → Type 0) (p : Entry → Bool) (x : Entry) (xs : List Entry) → All P xs → find p xs ≡ Some x → P x
found_passes P p x [] h is = absurd (none-some x is)
found_passes P p x (y ∷ ys) h is =
    elim (p y) as (λ b. cond b (Some y) (find p ys) ≡ Some x → P x) [
      | true ↦ λ e. subst P (some_same y x e) (All-head P y ys h)
      | false ↦ λ e. found_passes P p x ys (All-tail P y ys h) e
    ] is

none_above : (k : ℕ) (xs : List Entry) → AllByRecursion (λ x. k < x.number) xs → filter (λ x. x.number == k) xs ≡ []
none_above k [] h = refl
none_above k (x ∷ xs) h = ap (λ (b : Bool). cond b (x ∷ filter (λ y. y.number == k) xs) (filter (λ y. y.number == k) xs)) (above_test k x.number h.0) ∙ none_above k xs h.1

-- a number is that of one registration
one_numbered : (m k : ℕ) (x : Entry) (xs : List Entry) → RisesFrom m xs → numbered xs k ≡ Some x → filter (λ y. y.number == k) xs ≡ x ∷ []
one_numbered m k x [] h is = absurd (none-some x is)
one_numbered m k x (y ∷ ys) h is = elim (cases_Bool (y.number == k)) [
  | inl e ↦
      let none = none_above k ys (subst (λ (n : ℕ). AllByRecursion (λ z. n < z.number) ys) (from_test y.number k e) (rises_above y.number ys h.1)) in
      let one = some_same y x (ap (λ (b : Bool). cond b (Some y) (numbered ys k)) (sym e) ∙ is) in
      ap (λ (b : Bool). cond b (y ∷ filter (λ z. z.number == k) ys) (filter (λ z. z.number == k) ys)) e ∙ (λ i. one i ∷ none i)
  | inr e ↦
      let rest = one_numbered y.number k x ys h.1 (ap (λ (b : Bool). cond b (Some y) (numbered ys k)) (sym e) ∙ is) in
      ap (λ (b : Bool). cond b (y ∷ filter (λ z. z.number == k) ys) (filter (λ z. z.number == k) ys)) e ∙ rest
]

filter_same : (p q : Entry → Bool) (xs : List Entry) → AllByRecursion (λ x. p x ≡ q x) xs → filter p xs ≡ filter q xs
filter_same p q [] h = refl
filter_same p q (x ∷ xs) h = let rest = filter_same p q xs h.1 in λ i. cond (h.0 i) (x ∷ rest i) (rest i)

-- exactly the one that is found is looked at
pub one_looked : (r : Registrations) (instance : DescId) (fd : Fd) (desc : DescId) (k : ℕ) (x : Entry) (q : Entry → Bool) → IsSound r → list_any (has_key instance fd desc) r.entries ≡ true → numbered r.entries k ≡ find (has_key instance fd desc) r.entries → numbered r.entries k ≡ Some x
    → list_any q (filter (has_key instance fd desc) r.entries) ≡ q x
one_looked r instance fd desc k x q sound there is found =
    let number = has_number r instance fd desc k sound there is in
    ap (list_any q) (filter_same (has_key instance fd desc) (λ y. y.number == k) r.entries number ∙ one_numbered 0 k x r.entries sound.rises found)
    ∙ or-false (q x)
