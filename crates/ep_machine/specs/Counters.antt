-- Event counters.
use Rattle.std.specs.Prelude.{Bool, List, [], if◌then◌else◌, length, nat_lt, take, ℕ, ◌+◌, ◌-◌, ◌==◌, ◌^◌, ◌∷◌}
use Rattle.ep_base.specs.declared.answer.Answer.TheVariants.{Bytes, Num}
use Rattle.ep_base.specs.declared.errno.Errno.{Errno}
use Rattle.ep_base.specs.declared.errno.Errno.TheVariants.{Eagain, Einval}
use Rattle.ep_machine.specs.Bits.{IN, OUT, raises, union, when}
use Rattle.ep_machine.specs.Effect.{Effect, from_bytes, to_bytes}

pub record Counter : Type 0 where
  pub count : ℕ
  pub is_semaphore : Bool

abbrev pub greatest_count : ℕ
greatest_count = 2 ^ 64 - 2

abbrev pub counter_present : Counter → ℕ
counter_present c = union (when (nat_lt 0 c.count) IN ∷ when (nat_lt c.count greatest_count) OUT ∷ [])

abbrev pub counter_read_refusals : Counter → ℕ → List (Bool × Errno)
counter_read_refusals c n = (nat_lt n 8, Einval) ∷ (c.count == 0, Eagain) ∷ []

-- what a read gives: 1 in semaphore mode, else all
abbrev pub counter_given : Counter → ℕ
counter_given c = if c.is_semaphore then 1 else c.count

abbrev pub counter_read : Counter → Effect Counter
counter_read c = (Bytes (to_bytes 8 (counter_given c)), record c { count = c.count - counter_given c }, raises OUT 0)

-- a longer buffer uses its first 8 bytes
abbrev pub written : List ℕ → ℕ
written bytes = from_bytes (take 8 bytes)

abbrev pub counter_write_refusals : Counter → List ℕ → List (Bool × Errno)
counter_write_refusals c bytes =
    (nat_lt (length bytes) 8, Einval)
    ∷ (written bytes == 2 ^ 64 - 1, Einval)
    ∷ (nat_lt greatest_count (c.count + written bytes), Eagain) ∷ []

abbrev pub counter_write : Counter → List ℕ → Effect Counter
counter_write c bytes = (Num 8, record c { count = c.count + written bytes }, raises IN 0)
