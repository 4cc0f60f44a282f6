-- What registrations ask for, of what begins to hold and of what is counted.
use Rattle.std.proofs.Common.{◌≡◌, ℕ, zero, suc, ◌+◌, ◌<◌, ◌&&◌, ◌||◌, ◌∙◌, ◌⊎◌, ◌==◌, ◌*◌, ◌^◌, [], ◌∷◌, Bool, true, false, not, nat_lt, None, Option, Some, inl, inr, min, refl, ap, arith, sym}
use Rattle.std.specs.Prelude.{bit_and}
use Rattle.std.specs.Int.{bit_at}
use Rattle.std.proofs.lemmas.Bool.{false≢true}
use Rattle.std.proofs.lemmas.Bool.Decides.{nat_tests}
use Rattle.std.proofs.lemmas.Nat.Bits.{and_pow, bit_at_and, bit_at-lt, bit_at-zero, same_from_bits}
use Rattle.std.proofs.Math.Bool.{or-true}
use Rattle.ep_facts.proofs.NatFacts.{plus_none}
use Rattle.ep_base.specs.declared.counts.Counts.{Counts}
use Rattle.ep_machine.specs.Bits.{ERR, HUP, IN, OUT, RDHUP, asked, has_bit, union, when}
use Rattle.ep_machine.specs.Counts.{arrived_since, counted, every_shown_bit}
use Rattle.ep_machine.specs.Readiness.{is_fresh_since}
use Rattle.ep_object.proofs.BitLemmas.{Covers, zero_or_one}

pub none_or_some : (n : ℕ) → (n ≡ 0) ⊎ (nat_lt 0 n ≡ true)
none_or_some zero = inl refl
none_or_some (suc n) = inr (grind (arith, nat_tests))

-- a bit that is set makes a number positive
pub some_bit : (n i : ℕ) → bit_at n i ≡ 1 → nat_lt 0 n ≡ true
some_bit n i h = elim (none_or_some n) [
  | inl e ↦ let none : bit_at n i ≡ 0 = ap (λ (k : ℕ). bit_at k i) e ∙ bit_at-zero i in absurd (omega (arith, none, h))
  | inr some ↦ some
]

both_bits : (a b i : ℕ) → bit_at a i ≡ 1 → bit_at b i ≡ 1 → bit_at (bit_and a b) i ≡ 1
both_bits a b i p q = bit_at_and a b i ∙ (λ j. min (p j) (q j))

second_bit : (a b i : ℕ) → bit_at (bit_and a b) i ≡ 1 → bit_at b i ≡ 1
second_bit a b i h = at (bit_at a i) (bit_at b i) (bit_at-lt a i) (bit_at-lt b i) (sym (bit_at_and a b i) ∙ h) where
  at : (x y : ℕ) → x < 2 → y < 2 → min x y ≡ 1 → y ≡ 1
  at zero zero p q e = absurd (omega (arith, e))
  at zero (suc zero) p q e = refl
  at (suc zero) zero p q e = absurd (omega (arith, e))
  at (suc zero) (suc zero) p q e = refl
  at (suc (suc x)) y p q e = absurd (omega (arith, p))
  at x (suc (suc y)) p q e = absurd (omega (arith, q))

least : (k : ℕ) → k < 2 → min 0 k ≡ 0
least zero lt = refl
least (suc zero) lt = refl
least (suc (suc k)) lt = absurd (omega (arith, lt))

-- a bit of two sets is in the mask or not alike
same_asked : (m a b i : ℕ) → bit_at a i ≡ 1 → bit_at b i ≡ 1 → bit_and a m ≡ 0 → bit_at (bit_and b m) i ≡ 0
same_asked m a b i p q e =
    bit_at_and b m i ∙ (ap (λ (k : ℕ). min k (bit_at m i)) (q ∙ sym p) ∙ (sym (bit_at_and a m i) ∙ (ap (λ (k : ℕ). bit_at k i) e ∙ bit_at-zero i)))

not_asked : (m before after raised : ℕ) → Covers before after raised → bit_and before m ≡ 0 → bit_and raised m ≡ 0 → (i : ℕ) → bit_at (bit_and after m) i ≡ 0
not_asked m before after raised c none rises i = elim (zero_or_one after i) [
  | inl z ↦ bit_at_and after m i ∙ (ap (λ (k : ℕ). min k (bit_at m i)) z ∙ least (bit_at m i) (bit_at-lt m i))
  | inr here ↦ elim (c i here) [ inl was ↦ same_asked m before after i was here none | inr new ↦ same_asked m raised after i new here rises ]
]

-- what begins to be asked for is asked for of what is raised
pub asked_begins : (m before after raised : ℕ) → Covers before after raised → bit_and before m ≡ 0 → nat_lt 0 (bit_and after m) ≡ true → nat_lt 0 (bit_and raised m) ≡ true
asked_begins m before after raised c none some = elim (none_or_some (bit_and raised m)) [
  | inl rises ↦
      let nothing : bit_and after m ≡ 0 = same_from_bits (bit_and after m) 0 (λ i. not_asked m before after raised c none rises i ∙ sym (bit_at-zero i)) in
      absurd (false≢true (ap (nat_lt 0) (sym nothing) ∙ some))
  | inr more ↦ more
]

-- the test of a bit
pub bit_of : (n k w : ℕ) → 2 ^ k ≡ w → has_bit n w ≡ true → bit_at n k ≡ 1
bit_of n k w e h = elim (zero_or_one n k) [
  | inl z ↦
      let none : bit_and n w ≡ 0 = ap (bit_and n) (sym e) ∙ (and_pow n k ∙ (ap (λ (b : ℕ). b * 2 ^ k) z ∙ omega arith)) in
      absurd (false≢true (ap (λ (b : ℕ). not (b == 0)) (sym none) ∙ h))
  | inr one ↦ one
]

-- One count.

one_count : (x y : Bool) (o n : ℕ) → (x && nat_lt o (n + when y 1)) ≡ true → ((x && nat_lt o n) ≡ true) ⊎ ((x ≡ true) × (y ≡ true))
one_count true true o n h = inr (refl, refl)
one_count true false o n h = inl (ap (nat_lt o) (plus_none n) ∙ h)
one_count false y o n h = inl h

either : (P : Type 0) (a b c d : Bool) → (c ≡ true → (a ≡ true) ⊎ P) → (d ≡ true → (b ≡ true) ⊎ P) → (c || d) ≡ true → ((a || b) ≡ true) ⊎ P
either P a b true d f g h = elim (f refl) [ inl e ↦ inl (ap (λ (z : Bool). z || b) e) | inr p ↦ inr p ]
either P a b false d f g h = elim (g h) [ inl e ↦ inl (ap (λ (z : Bool). a || z) e ∙ or-true a) | inr p ↦ inr p ]

module _ (mask raised : ℕ) where
  abbrev bits : ℕ
  bits = asked mask every_shown_bit

  abbrev IsAsked : Type 0
  IsAsked = nat_lt 0 (asked mask raised) ≡ true

  one_bit : (k w : ℕ) → 2 ^ k ≡ w → has_bit bits w ≡ true → has_bit raised w ≡ true → IsAsked
  one_bit k w e p q =
      let m = union (mask ∷ ERR ∷ HUP ∷ []) in
      some_bit (asked mask raised) k (both_bits raised m k (bit_of raised k w e q) (second_bit every_shown_bit m k (bit_of bits k w e p)))

  one_part : (k w : ℕ) → 2 ^ k ≡ w → (o n : ℕ) → (has_bit bits w && nat_lt o (n + when (has_bit raised w) 1)) ≡ true → ((has_bit bits w && nat_lt o n) ≡ true) ⊎ IsAsked
  one_part k w e o n h = elim (one_count (has_bit bits w) (has_bit raised w) o n h) [ inl r ↦ inl r | inr p ↦ inr (one_bit k w e p.0 p.1) ]

  pub fresh_begins : (o : Option Counts) (c : Counts) → is_fresh_since o bits (counted raised c) ≡ true → (is_fresh_since o bits c ≡ true) ⊎ IsAsked
  fresh_begins None c h = inl refl
  fresh_begins (Some old) c h =
      either IsAsked _ _ _ _
      (either IsAsked _ _ _ _
      (either IsAsked _ _ _ _
      (either IsAsked _ _ _ _ (one_part 0 IN refl old.of_in c.of_in) (one_part 2 OUT refl old.of_out c.of_out))
      (one_part 3 ERR refl old.of_err c.of_err))
      (one_part 4 HUP refl old.of_hup c.of_hup))
      (one_part 13 RDHUP refl old.of_rdhup c.of_rdhup) h

-- what was just reported is not fresh
never : (x : Bool) (n : ℕ) → (x && nat_lt n n) ≡ false
never true n = grind (arith, nat_tests)
never false n = refl

pub not_fresh : (bits : ℕ) (c : Counts) → arrived_since bits c c ≡ false
not_fresh bits c = λ i. never (has_bit bits IN) c.of_in i || never (has_bit bits OUT) c.of_out i || never (has_bit bits ERR) c.of_err i || never (has_bit bits HUP) c.of_hup i || never (has_bit bits RDHUP) c.of_rdhup i
