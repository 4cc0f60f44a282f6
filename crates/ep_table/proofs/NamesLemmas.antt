-- Going through the descriptors of a table.
use Rattle.std.proofs.Common.{Bool, true, false, inl, inr, List, None, Option, Some, [], arith, drop, get_or, length, suc, zero, ℕ, ◌+◌, ◌<◌, ◌∷◌, ◌≡◌, ◌≤◌}
use Rattle.std.proofs.lemmas.Bool.{cases_Bool}
use Rattle.ep_table.specs.Counting.{numbers}
use Rattle.ep_table.specs.Flagged.{closing}
use Rattle.ep_table.specs.Value.{Things, count_at, times}
use Rattle.ep_table.specs.View.{LiveSlot, LiveTable}
use Rattle.ep_table.specs.declared.words.Descriptor.{Descriptor}

-- part of a table is gone through, and the rest is left
pub record Lowering (old now : Things) (all rest : List ℕ) : Type 0 where
  pub same : now ≡ record old { names = now.names; dying = now.dying }
  pub names : (d : ℕ) → count_at now.names d + times d all ≡ count_at old.names d + times d rest

pub record Raising (old now : Things) (all rest : List ℕ) : Type 0 where
  pub same : now ≡ record old { names = now.names; named = now.named }
  pub names : (d : ℕ) → count_at now.names d + times d rest ≡ count_at old.names d + times d all
  pub named : now.named + length rest ≡ old.named + length all

pub live_at_slot : (keys : List (Option ℕ)) (t : List (Option Descriptor)) (i : ℕ) (y : Option Descriptor) → i < length t → LiveTable keys t → LiveSlot keys (get_or t i y)
live_at_slot keys [] i y l h = absurd (omega arith)
live_at_slot keys (x ∷ t) zero y l h = h.0
live_at_slot keys (x ∷ t) (suc i) y l h = live_at_slot keys t i y (omega arith) h.1

pub live_closing : (keys : List (Option ℕ)) (every : Bool) (x : Option Descriptor) → LiveSlot keys x → LiveSlot keys (closing every x)
live_closing keys every None h = tt
live_closing keys true (Some x) h = h
live_closing keys false (Some x) h = elim (cases_Bool x.cloexec) [ inl e ↦ rw e h | inr e ↦ rw e tt ]

-- a part of a table gives no more names
pub one_fewer : (keys : List (Option ℕ)) (t : List (Option Descriptor)) (i d : ℕ) → times d (numbers keys (get_or t i None ∷ [])) ≤ times d (numbers keys t)
one_fewer keys [] i d = omega arith
one_fewer keys (None ∷ t) zero d = omega arith
one_fewer keys (Some x ∷ t) zero d = omega arith
one_fewer keys (None ∷ t) (suc i) d = one_fewer keys t i d
one_fewer keys (Some x ∷ t) (suc i) d = omega (arith, one_fewer keys t i d)

pub rest_fewer : (keys : List (Option ℕ)) (i : ℕ) (t : List (Option Descriptor)) (d : ℕ) → times d (numbers keys (drop i t)) ≤ times d (numbers keys t)
rest_fewer keys zero t d = omega arith
rest_fewer keys (suc i) [] d = omega arith
rest_fewer keys (suc i) (None ∷ t) d = rest_fewer keys i t d
rest_fewer keys (suc i) (Some x ∷ t) d = omega (arith, rest_fewer keys i t d)
