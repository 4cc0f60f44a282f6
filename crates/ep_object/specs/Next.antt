-- Which objects are timers, and when one next becomes readable as the clock goes on.
use Rattle.std.specs.Prelude.{None, Option, Some, ℕ, ◌≡◌}
use Rattle.ep_counters.specs.Timer.{IsNextArrival}
use Rattle.ep_machine.specs.Objects.{Object, timer}
use Rattle.ep_machine.specs.Timer.{Timer, timer_advance}

-- the timer that an object is, if it is one
abbrev pub timer_of : Object → Option Timer
timer_of (timer t) = Some t
timer_of x = None

-- only a timer becomes readable so
abbrev pub IsNextOf : Option Timer → ℕ → Option ℕ → Type 0
IsNextOf None now next = next ≡ None
IsNextOf (Some t) now next = IsNextArrival t now next

abbrev pub IsNextMoment : Object → ℕ → Option ℕ → Type 0
IsNextMoment x now next = IsNextOf (timer_of x) now next

-- what the clock's going on raises at what may be a timer
abbrev pub advance_of : Option Timer → ℕ → ℕ → ℕ
advance_of None old now = 0
advance_of (Some t) old now = timer_advance t old now
