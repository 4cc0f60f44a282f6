-- The law of what is raised, and what holds of a timer's next arrival.
use Rattle.std.specs.Prelude.{Bool, Option, None, Some, false, nat_le, true, ℕ, ◌≡◌, ◌≤◌, List}
use Rattle.ep_base.specs.declared.object.End.TheVariants.{First}
use Rattle.ep_base.specs.declared.object.Raised.{Raised}
use Rattle.ep_counters.specs.Timer.{IsNextArrival}
use Rattle.ep_machine.specs.Bits.{IN, at_end, IsCovered, when}
use Rattle.ep_machine.specs.Counters.{Counter, counter_present, counter_read, counter_read_refusals, counter_write, counter_write_refusals}
use Rattle.ep_machine.specs.Effect.{attempt}
use Rattle.ep_machine.specs.Timer.{Timer, timer_advance, timer_present, timer_read, timer_read_refusals, timer_set_refusals, timer_settime}

-- so it is at the first end, the only one here
abbrev pub RaisesArrivals : ℕ → ℕ → Raised → Type 0
RaisesArrivals before after raised = IsCovered before after (at_end raised First)

abbrev pub CounterReadLaw : Type 0
CounterReadLaw = (c : Counter) (n : ℕ)
    → let effect = attempt (counter_read_refusals c n) c (counter_read c) in
    RaisesArrivals (counter_present c) (counter_present effect.1) effect.2

abbrev pub CounterWriteLaw : Type 0
CounterWriteLaw = (c : Counter) (bytes : List ℕ)
    → let effect = attempt (counter_write_refusals c bytes) c (counter_write c bytes) in
    RaisesArrivals (counter_present c) (counter_present effect.1) effect.2

abbrev pub TimerReadLaw : Type 0
TimerReadLaw = (t : Timer) (now n : ℕ)
    → let effect = attempt (timer_read_refusals t n now) t (timer_read t now) in
    RaisesArrivals (timer_present t now) (timer_present effect.1 now) effect.2

abbrev pub TimerSettimeLaw : Type 0
TimerSettimeLaw = (t : Timer) (absolute : Bool) (value interval now : ℕ)
    → let effect = attempt (timer_set_refusals value interval) t (timer_settime t absolute value interval now) in
    RaisesArrivals (timer_present t now) (timer_present effect.1 now) effect.2

-- as the clock goes on
abbrev pub TimerAdvanceLaw : Type 0
TimerAdvanceLaw = (t : Timer) (old new : ℕ) → IsCovered (timer_present t old) (timer_present t new) (timer_advance t old new)

-- the moment is there, and no later than the other
abbrev pub is_by : Option ℕ → ℕ → Bool
is_by None limit = false
is_by (Some moment) limit = nat_le moment limit

abbrev pub NextIsOne : Type 0
NextIsOne = (t : Timer) (now : ℕ) (a b : Option ℕ) → IsNextArrival t now a → IsNextArrival t now b → a ≡ b

abbrev pub NextTellsAdvance : Type 0
NextTellsAdvance = (t : Timer) (old new : ℕ) (next : Option ℕ) → IsNextArrival t old next → timer_advance t old new ≡ when (is_by next new) IN

abbrev pub NextStays : Type 0
NextStays = (t : Timer) (old new : ℕ) (next : Option ℕ) → old ≤ new → IsNextArrival t old next
    → is_by next new ≡ false → IsNextArrival t new next

abbrev pub NextIsOver : Type 0
NextIsOver = (t : Timer) (old new : ℕ) (next : Option ℕ) → IsNextArrival t old next → is_by next new ≡ true → IsNextArrival t new None
