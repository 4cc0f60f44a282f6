-- The moments at which the clock next raises IN at timers.
use Rattle.std.specs.List.{list_any}
use Rattle.std.specs.Prelude.{List, None, Option, Some, if◌then◌else◌, is_some, map, nat_eq, ℕ, ◌≡◌, ◌≢◌}
use Rattle.ep_base.specs.declared.ids.DescId.{DescId}
use Rattle.ep_counters.specs.Timer.{IsNextArrival}
use Rattle.ep_due.specs.DueMap.{Moments, moment_of}
use Rattle.ep_machine.specs.Timer.{Timer}
use Rattle.ep_alarms.specs.Timers.{timer_under}
use Rattle.ep_table.specs.Value.{Seen, number_under}

-- a timer has the first moment after now at which IN arrives, or none where there is none; what is no timer isn't
-- among them
abbrev pub IsSetFor : Option Timer → ℕ → Option (Option ℕ) → Type 0
IsSetFor None now moment = moment ≡ None
IsSetFor (Some t) now None = ⊥
IsSetFor (Some t) now (Some next) = IsNextArrival t now next

-- so it is under each key
abbrev pub AreSet : Seen → ℕ → Moments → Type 0
AreSet v now a = (k : ℕ) → IsSetFor (timer_under v k) now (moment_of a k)

-- and under each key but this one
abbrev pub AreSetBut : Seen → ℕ → ℕ → Moments → Type 0
AreSetBut v now key a = (k : ℕ) → k ≢ key → IsSetFor (timer_under v k) now (moment_of a k)

-- a key is among them exactly where it is a timer's
abbrev pub IsKept : Seen → ℕ → Moments → Type 0
IsKept v key a = is_some (moment_of a key) ≡ is_some (timer_under v key)

-- those that nothing names or holds are taken out, and the others are as they were
pub record LosesDying (v : Seen) (old new : Moments) : Type 0 where
  pub descs : List DescId
  pub dying : map (number_under v) descs ≡ map Some v.dying
  pub moments : (k : ℕ) → moment_of new k ≡ (if list_any (λ desc. nat_eq desc.0 k) descs then None else moment_of old k)
