-- A descriptor at a given number of a table, and what exec leaves of one.
use Rattle.std.proofs.Common.{List, None, Option, Some, [], ap, arith, drop, get_or, length, map, refl, replicate, slice_set, suc, take, zero, ℕ, ◌++◌, ◌+◌, ◌-◌, ◌<◌, ◌∙◌, ◌∷◌, ◌≡◌, ◌≤◌}
use Rattle.ep_machine.specs.Lists.{lowest_free, place_at}
use Rattle.ep_table.specs.Flagged.{grown, kept}
use Rattle.ep_table.specs.declared.words.Descriptor.{Descriptor}

pub grown_more : (t : List (Option Descriptor)) (k m : ℕ) → m ≡ k + 1 - length t → length t ≤ k → t ++ replicate m None ≡ grown t k
grown_more [] zero m e l = let f : m ≡ 1 = omega (arith, e) in ap (λ (j : ℕ). replicate j None) f
grown_more [] (suc k) m e l =
    let f : m ≡ suc (k + 1) = omega (arith, e) in
    ap (λ (j : ℕ). replicate j None) f ∙ ap (λ (r : List (Option Descriptor)). None ∷ r) (grown_more [] k (k + 1) (omega arith) (omega arith))
grown_more (x ∷ t) zero m e l = absurd (omega (arith, l))
grown_more (x ∷ t) (suc k) m e l = ap (λ (r : List (Option Descriptor)). x ∷ r) (grown_more t k m (omega (arith, e)) (omega (arith, l)))

pub take_long : (t : List (Option Descriptor)) (n : ℕ) → length t ≤ n → take n t ≡ t
take_long [] zero h = refl
take_long [] (suc n) h = refl
take_long (x ∷ t) zero h = absurd (omega arith)
take_long (x ∷ t) (suc n) h = ap (λ (r : List (Option Descriptor)). x ∷ r) (take_long t n (omega arith))

pub grown_within : (t : List (Option Descriptor)) (k : ℕ) → k < length t → grown t k ≡ t
grown_within [] k h = absurd (omega arith)
grown_within (x ∷ t) zero h = refl
grown_within (x ∷ t) (suc k) h = ap (λ (r : List (Option Descriptor)). x ∷ r) (grown_within t k (omega arith))

pub grown_has : (t : List (Option Descriptor)) (k : ℕ) → k < length (grown t k)
grown_has [] zero = omega arith
grown_has [] (suc k) = omega (arith, grown_has [] k)
grown_has (x ∷ t) zero = omega arith
grown_has (x ∷ t) (suc k) = omega (arith, grown_has t k)

pub placed : (t : List (Option Descriptor)) (k : ℕ) (x : Descriptor) → slice_set (grown t k) k (Some x) ≡ place_at t k x
placed [] zero x = refl
placed [] (suc k) x = ap (λ (r : List (Option Descriptor)). None ∷ r) (placed [] k x)
placed (y ∷ t) zero x = refl
placed (y ∷ t) (suc k) x = ap (λ (r : List (Option Descriptor)). y ∷ r) (placed t k x)

pub low_place : (t : List (Option Descriptor)) (k : ℕ) (x : Descriptor) → lowest_free t ≤ lowest_free (place_at t k x)
low_place [] k x = omega arith
low_place (None ∷ t) k x = omega arith
low_place (Some y ∷ t) zero x = omega arith
low_place (Some y ∷ t) (suc k) x = omega (arith, low_place t k x)

pub kept_next : (t : List (Option Descriptor)) (n : ℕ) → n < length t
    → slice_set (map kept (take n t) ++ drop n t) n (kept (get_or (map kept (take n t) ++ drop n t) n None)) ≡ map kept (take (suc n) t) ++ drop (suc n) t
kept_next [] n h = absurd (omega arith)
kept_next (x ∷ t) zero h = refl
kept_next (x ∷ t) (suc n) h = ap (λ (r : List (Option Descriptor)). kept x ∷ r) (kept_next t n (omega arith))
