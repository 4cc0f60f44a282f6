-- How many callers of each process are parked.
use Rattle.std.specs.List.{count_by}
use Rattle.std.specs.Map.{lookup}
use Rattle.std.specs.Prelude.{List, None, Option, Some, if◌then◌else◌, nat_eq, nat_lt, unwrap_or, ℕ, ◌+◌, ◌-◌, ◌≡◌}
use Rattle.ep_park.specs.Waiters.{is_of, listed}
use Rattle.ep_park.specs.declared.waiter.Waiter.{Waiter}

-- a number that is kept only where it isn't 0
abbrev pub positive : ℕ → Option ℕ
positive n = if nat_lt 0 n then Some n else None

abbrev pub one_more : Option ℕ → Option ℕ
one_more n = Some (unwrap_or n 0 + 1)

abbrev pub one_less : ℕ → Option ℕ
one_less n = if nat_lt 1 n then Some (n - 1) else None

pub record IsCounted (waiters : List (ℕ × Waiter)) (processes : List (ℕ × ℕ)) : Type 0 where
  pub of : (process : ℕ) → lookup (nat_eq process) processes ≡ positive (count_by (is_of process) (listed waiters))
