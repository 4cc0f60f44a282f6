-- Bits that go on holding.
use Rattle.std.proofs.Common.{◌≡◌, ◌&&◌, ◌||◌, ◌∙◌, ℕ, Bool, false, true, ap, inl, inr, refl}
use Rattle.std.specs.Int.{bit_at}
use Rattle.std.specs.Prelude.{bit_or}
use Rattle.ep_machine.specs.Bits.{when}
use Rattle.ep_object.proofs.BitLemmas.{Covers, either_bit, first_bit, last_bit, no_bit}

-- each bit of the old ones is among the new
abbrev pub Stay : ℕ → ℕ → Type 0
Stay new old = Covers new old 0

pub when_stays : (new old : Bool) (n : ℕ) → (old ≡ true → new ≡ true) → Stay (when new n) (when old n)
when_stays new true n h i at = inl (ap (λ (b : Bool). bit_at (when b n) i) (h refl) ∙ at)
when_stays new false n h i at = absurd (no_bit i at)

pub or_stays : (a b c d : ℕ) → Stay a c → Stay b d → Stay (bit_or a b) (bit_or c d)
or_stays a b c d one two i at = elim (either_bit c d i at) [
  | inl here ↦ elim (one i here) [ inl stays ↦ inl (first_bit a b i stays) | inr none ↦ inr none ]
  | inr there ↦ elim (two i there) [ inl stays ↦ inl (last_bit a b i stays) | inr none ↦ inr none ]
]

-- Bools.
pub or_both : (a b c d : Bool) → (a ≡ true → c ≡ true) → (b ≡ true → d ≡ true) → (a || b) ≡ true → (c || d) ≡ true
or_both true b c d f g h = ap (λ (x : Bool). x || d) (f refl)
or_both false b true d f g h = refl
or_both false b false d f g h = g h

pub and_both : (a b c d : Bool) → (a ≡ true → c ≡ true) → (b ≡ true → d ≡ true) → (a && b) ≡ true → (c && d) ≡ true
and_both true b c d f g h = ap (λ (x : Bool). x && d) (f refl) ∙ g h
and_both false b c d f g h = cc
