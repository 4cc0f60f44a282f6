-- What an event raises at a description, as bits: of two parts, and of what is raised at some of the live ones.
use Rattle.std.proofs.Common.{◌≡◌, ◌+◌, ◌<◌, ◌++◌, ◌==◌, ◌∙◌, ◌∷◌, [], ℕ, Bool, false, List, None, Option, Some, ap, arith, bit_or, cond, filter, get_or, map, max, suc, sym, true, zero, refl}
use Rattle.std.specs.Int.{bit_at}
use Rattle.std.specs.Int.Bits.{or_zero_r}
use Rattle.std.proofs.lemmas.Bool.Decides.{nat_tests}
use Rattle.std.proofs.lemmas.Nat.Bits.{bit_at_or, same_from_bits}
use Rattle.std.proofs.Math.Nat.{add-zero as here, zero-add as from_zero}
use Rattle.ep_facts.proofs.NatFacts.{above_test, same_nat, shift as next}
use Rattle.ep_machine.specs.Bits.{when}
use Rattle.ep_machine.specs.Files.{Files, Place, live}
use Rattle.ep_machine.specs.Lists.{numbered}
use Rattle.ep_machine.specs.Spread.{raised_of}

or_assoc : (a b c : ℕ) → bit_or a (bit_or b c) ≡ bit_or (bit_or a b) c
or_assoc a b c = same_from_bits (bit_or a (bit_or b c)) (bit_or (bit_or a b) c) (λ i.
    bit_at_or a (bit_or b c) i
    ∙ (ap (λ (n : ℕ). max (bit_at a i) n) (bit_at_or b c i)
    ∙ (three (bit_at a i) (bit_at b i) (bit_at c i)
    ∙ sym (bit_at_or (bit_or a b) c i ∙ ap (λ (n : ℕ). max n (bit_at c i)) (bit_at_or a b i))))) where
      three : (x y z : ℕ) → max x (max y z) ≡ max (max x y) z
      three x y z = omega arith

pub raised_parts : (xs ys : List (ℕ × ℕ)) (d : ℕ) → raised_of (xs ++ ys) d ≡ bit_or (raised_of xs d) (raised_of ys d)
raised_parts [] ys d = refl
raised_parts (x ∷ xs) ys d = ap (bit_or (when (x.0 == d) x.1)) (raised_parts xs ys d) ∙ or_assoc (when (x.0 == d) x.1) (raised_of xs d) (raised_of ys d)

-- What is raised at some of the live descriptions, by their places.
module _ (chosen : Place → Bool) (bits : Place → ℕ) where
  abbrev at_places : ℕ → List (Option Place) → List (ℕ × ℕ)
  at_places k ds = map (λ x. (x.0, bits x.1)) (filter (λ x. chosen x.1) (numbered k ds))

  abbrev pub raised_place : Option Place → ℕ
  raised_place None = 0
  raised_place (Some p) = when (chosen p) (bits p)

  -- nothing is raised at a number below the first
  below : (k d : ℕ) (ds : List (Option Place)) → d < k → raised_of (at_places k ds) d ≡ 0
  below k d [] lt = refl
  below k d (None ∷ ds) lt = below (k + 1) d ds (omega (arith, lt))
  below k d (Some p ∷ ds) lt =
      let rest = below (k + 1) d ds (omega (arith, lt)) in
      elim (chosen p) as (λ b. raised_of (map (λ x. (x.0, bits x.1)) (cond b ((k, p) ∷ filter (λ x. chosen x.1) (numbered (k + 1) ds)) (filter (λ x. chosen x.1) (numbered (k + 1) ds)))) d ≡ 0) [
        | true ↦ ap (λ (c : Bool). bit_or (when c (bits p)) (raised_of (at_places (k + 1) ds) d)) (above_test d k lt) ∙ rest
        | false ↦ rest
      ]

  raised_from : (k j : ℕ) (ds : List (Option Place)) → raised_of (at_places k ds) (k + j) ≡ raised_place (get_or ds j None)
  raised_from k j [] = refl
  raised_from k zero (None ∷ ds) = below (k + 1) (k + 0) ds (omega arith)
  raised_from k (suc j) (None ∷ ds) = ap (raised_of (at_places (k + 1) ds)) (sym (next k j)) ∙ raised_from (k + 1) j ds
  raised_from k zero (Some p ∷ ds) =
      let none = below (k + 1) k ds (omega arith) in
      ap (raised_of (at_places k (Some p ∷ ds))) (here k)
      ∙ elim (chosen p) as (λ b. raised_of (map (λ x. (x.0, bits x.1)) (cond b ((k, p) ∷ filter (λ x. chosen x.1) (numbered (k + 1) ds)) (filter (λ x. chosen x.1) (numbered (k + 1) ds)))) k ≡ when b (bits p)) [
        | true ↦ (λ i. bit_or (when (same_nat k i) (bits p)) (none i)) ∙ or_zero_r (bits p)
        | false ↦ none
      ]
  raised_from k (suc j) (Some p ∷ ds) =
      let rest = ap (raised_of (at_places (k + 1) ds)) (sym (next k j)) ∙ raised_from (k + 1) j ds in
      elim (chosen p) as (λ b. raised_of (map (λ x. (x.0, bits x.1)) (cond b ((k, p) ∷ filter (λ x. chosen x.1) (numbered (k + 1) ds)) (filter (λ x. chosen x.1) (numbered (k + 1) ds)))) (k + suc j) ≡ raised_place (get_or ds j None)) [
        | true ↦ ap (λ (c : Bool). bit_or (when c (bits p)) (raised_of (at_places (k + 1) ds) (k + suc j))) (other k j) ∙ rest
        | false ↦ rest
      ] where
        other : (a b : ℕ) → (a == a + suc b) ≡ false
        other a b = grind (arith, nat_tests)

  pub raised_live : (f : Files) (d : ℕ) → raised_of (map (λ x. (x.0, bits x.1)) (filter (λ x. chosen x.1) (live f))) d ≡ raised_place (get_or f.descriptions d None)
  raised_live f d = ap (raised_of (at_places 0 f.descriptions)) (sym (from_zero d)) ∙ raised_from 0 d f.descriptions
