-- Numbers of 64 bits, one after another.
use Rattle.std.proofs.Common.{◌≡◌, ◌+◌, ◌<◌, ◌≤◌, ◌^◌, ◌⊎◌, arith, inl, inr, length, slice_index, subst, List, ℕ}
use Rattle.std.proofs.Math.ListN.{get_or-eq_default}

pub longs_more : (ns : List ℕ) (k : ℕ) → ((i : ℕ) → i < k → slice_index ns i < 2 ^ 64) → slice_index ns k < 2 ^ 64 → (i : ℕ) → i < k + 1 → slice_index ns i < 2 ^ 64
longs_more ns k before last i lt = by (or_last i lt)
  where
    or_last : (j : ℕ) → j < k + 1 → (j < k) ⊎ (k ≡ j)
    or_last j h = grind (arith, h)

    by : (i < k) ⊎ (k ≡ i) → slice_index ns i < 2 ^ 64
    by (inl earlier) = before i earlier
    by (inr e) = subst (λ (n : ℕ). slice_index ns n < 2 ^ 64) e last

past_end : (ns : List ℕ) (i : ℕ) → length ns ≤ i → slice_index ns i < 2 ^ 64
past_end ns i h = let e : slice_index ns i ≡ 0 = get_or-eq_default ns 0 h in omega (arith, e)

pub longs_all : (ns : List ℕ) (k : ℕ) → length ns ≤ k → ((i : ℕ) → i < k → slice_index ns i < 2 ^ 64) → (i : ℕ) → slice_index ns i < 2 ^ 64
longs_all ns k whole before i = by (or_past i)
  where
    or_past : (j : ℕ) → (j < k) ⊎ (k ≤ j)
    or_past j = grind arith

    by : (i < k) ⊎ (k ≤ i) → slice_index ns i < 2 ^ 64
    by (inl earlier) = before i earlier
    by (inr past) = past_end ns i (omega (arith, whole, past))
