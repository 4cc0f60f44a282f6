-- Numbers and the tests of them.
use Rattle.std.proofs.Common.{◌≡◌, ◌≢◌, ◌<◌, ◌≤◌, ◌+◌, ◌==◌, ◌⊎◌, ℕ, ℤ, true, false, arith, inl, inr, nat_le, nat_lt, not, refl, suc, zero}
use Rattle.std.specs.Ordering.{int_eq}
use Rattle.std.proofs.lemmas.Bool.{cases_Bool}
use Rattle.std.proofs.lemmas.Bool.Decides.{Decides-int_eq, nat_tests}

pub same_nat : (n : ℕ) → (n == n) ≡ true
same_nat n = grind (arith, nat_tests)

pub same_test : (a b : ℕ) → a ≡ b → (a == b) ≡ true
same_test a b e = grind (arith, nat_tests, e)

pub from_test : (a b : ℕ) → (a == b) ≡ true → a ≡ b
from_test a b e = grind (arith, nat_tests, e)

pub test_apart : (a b : ℕ) → a ≢ b → (a == b) ≡ false
test_apart a b h = grind (arith, nat_tests, h)

pub not_apart : (a b : ℕ) → (a == b) ≡ false → a ≡ b → ⊥
not_apart a b h e = grind (arith, nat_tests, h, e)

pub test_turned : (a b : ℕ) → (a == b) ≡ (b == a)
test_turned a b = grind (arith, nat_tests)

pub same_or_not : (a b : ℕ) → (a ≡ b) ⊎ (a ≢ b)
same_or_not a b = elim (cases_Bool (a == b)) [ inl e ↦ inl (grind (arith, nat_tests, e)) | inr e ↦ inr (λ h. grind (arith, nat_tests, e, h)) ]

pub above_test : (a b : ℕ) → a < b → (b == a) ≡ false
above_test a b h = grind (arith, nat_tests, h)

pub less_apart : (a b : ℕ) → a < b → a ≡ b → ⊥
less_apart a b l e = absurd (omega (arith, l, e))

pub below_or : (a b : ℕ) → (a < b) ⊎ (b ≤ a)
below_or a b = elim (cases_Bool (nat_lt a b)) [ inl e ↦ inl (grind (arith, nat_tests, e)) | inr e ↦ inr (grind (arith, nat_tests, e)) ]

pub from_le : (a b : ℕ) → nat_le a b ≡ true → a ≤ b
from_le a b h = grind (arith, nat_tests, h)

pub le_test : (a b : ℕ) → a ≤ b → nat_le a b ≡ true
le_test a b h = grind (arith, nat_tests, h)

-- none, and more than none

pub is_positive : (n : ℕ) → 0 < n → nat_lt 0 n ≡ true
is_positive n h = grind (arith, nat_tests, h)

pub positive : (n : ℕ) → nat_lt 0 n ≡ not (n == 0)
positive n = grind (arith, nat_tests)

pub zero_of : (n : ℕ) → nat_lt 0 n ≡ false → n ≡ 0
zero_of n h = grind (arith, nat_tests, h)

pub zero_test : (n : ℕ) → (n == 0) ≡ true → n ≡ 0
zero_test n h = grind (arith, nat_tests, h)

pub above_none : (n : ℕ) → (n == 0) ≡ false → 0 < n
above_none n h = grind (arith, nat_tests, h)

pub suc_is_not_zero : (n : ℕ) → (suc n == 0) ≡ false
suc_is_not_zero n = grind (arith, nat_tests)

pub zero_suc : (n : ℕ) → zero ≡ suc n → ⊥
zero_suc n e = absurd (omega (arith, e))

pub suc_zero : (n : ℕ) → suc n ≡ zero → ⊥
suc_zero n e = absurd (omega (arith, e))

pub suc_same : (a b : ℕ) → suc a ≡ suc b → a ≡ b
suc_same a b e = omega (arith, e)

pub plus_none : (n : ℕ) → n ≡ n + 0
plus_none n = omega arith

pub shift : (a b : ℕ) → a + 1 + b ≡ a + suc b
shift a b = omega arith

-- integers

pub same_int : (a : ℤ) → int_eq a a ≡ true
same_int a = (Decides-int_eq a a).1 refl
