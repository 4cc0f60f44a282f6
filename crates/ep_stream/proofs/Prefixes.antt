-- The front of a list that lies in two parts.
use Rattle.std.proofs.Common.{◌≡◌, ◌++◌, ◌+◌, ◌-◌, ◌≤◌, List, arith, inl, inr, length, min, take, ℕ}
use Rattle.std.proofs.Math.Seq.{take-append-add}
use Rattle.std.proofs.lemmas.Bool.{cases_lt}
use Rattle.std.proofs.lemmas.Grind.{common_steps}
use Rattle.std.proofs.lemmas.List.{take-append-le}

within_first : {X : Type 0} (front back : List X) (n i : ℕ) → n ≤ length front → i ≡ n → take i front ++ take (n - i) back ≡ take n (front ++ back)
within_first front back n i within is_n = grind (arith, common_steps, take-append-le)

past_first : {X : Type 0} (front back : List X) (n i m : ℕ) → i ≡ length front → n ≡ length front + m → take i front ++ take (n - i) back ≡ take n (front ++ back)
past_first front back n i m is_all is_more = grind (arith, common_steps, take-append-add)

pub take_parts : {X : Type 0} (front back : List X) (n i : ℕ) → i ≡ min (length front) n → take i front ++ take (n - i) back ≡ take n (front ++ back)
take_parts front back n i is =
    elim (cases_lt (length front) n) [
      | inl longer ↦ past_first front back n i (n - length front) (omega arith) (omega arith)
      | inr within ↦ within_first front back n i within (omega arith)
    ]
