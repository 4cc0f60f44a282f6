-- Timers over the simulated clock.
use Rattle.std.specs.Prelude.{Bool, List, None, Option, Some, [], if◌then◌else◌, nat_lt, ℕ, ◌&&◌, ◌*◌, ◌+◌}
use Rattle.std.specs.Prelude.{◌-◌, ◌/◌, ◌==◌, ◌||◌, ◌∷◌}
use Rattle.ep_base.specs.declared.answer.Answer.{Answer}
use Rattle.ep_base.specs.declared.answer.Answer.TheVariants.{Bytes, Time}
use Rattle.ep_base.specs.declared.errno.Errno.{Errno}
use Rattle.ep_base.specs.declared.errno.Errno.TheVariants.{Eagain, Einval}
pub use Rattle.ep_base.specs.Time.{last_moment}
use Rattle.ep_machine.specs.Bits.{IN, nothing, raises, when}
use Rattle.ep_machine.specs.Effect.{Effect, to_bytes}

pub record Timer : Type 0 where
  pub first_moment : Option ℕ
  pub interval : ℕ
  pub taken : ℕ  -- expirations that were read

abbrev pub new_timer : Timer
new_timer = record { first_moment = None; interval = 0; taken = 0 }

-- from a first moment on, up to now
abbrev pub expirations_from : Option ℕ → ℕ → ℕ → ℕ
expirations_from None interval now = 0
expirations_from (Some moment) interval now = if nat_lt now moment then 0 else if interval == 0 then 1 else 1 + (now - moment) / interval

abbrev pub expirations : Timer → ℕ → ℕ
expirations t now = expirations_from t.first_moment t.interval now

abbrev pub unread : Timer → ℕ → ℕ
unread t now = expirations t now - t.taken

abbrev pub timer_present : Timer → ℕ → ℕ
timer_present t now = when (nat_lt 0 (unread t now)) IN

-- how long until the next expiration, 0 where none comes
abbrev pub time_left : Option ℕ → ℕ → ℕ → ℕ → ℕ
time_left None interval past now = 0
time_left (Some moment) interval past now = if interval == 0 && nat_lt 0 past then 0 else moment + past * interval - now

abbrev pub timer_setting : Timer → ℕ → Answer
timer_setting t now = Time (time_left t.first_moment t.interval (expirations t now) now) t.interval

-- value 0 disarms
abbrev pub moment_of : Bool → ℕ → ℕ → Option ℕ
moment_of absolute value now = if value == 0 then None else Some (if absolute then value else now + value)

abbrev pub timer_set : Bool → ℕ → ℕ → ℕ → Timer
timer_set absolute value interval now = record { first_moment = moment_of absolute value now; interval = interval; taken = 0 }

abbrev pub timer_set_refusals : ℕ → ℕ → List (Bool × Errno)
timer_set_refusals value interval = (nat_lt last_moment value || nat_lt last_moment interval, Einval) ∷ []

abbrev pub timer_settime : Timer → Bool → ℕ → ℕ → ℕ → Effect Timer
timer_settime t absolute value interval now =
    let set = timer_set absolute value interval now in
    (timer_setting t now, set, raises (timer_present set now) 0)

abbrev pub timer_read_refusals : Timer → ℕ → ℕ → List (Bool × Errno)
timer_read_refusals t n now = (nat_lt n 8, Einval) ∷ (unread t now == 0, Eagain) ∷ []

abbrev pub timer_read : Timer → ℕ → Effect Timer
timer_read t now = (Bytes (to_bytes 8 (unread t now)), record t { taken = expirations t now }, nothing)

-- what a tick raises
abbrev pub timer_advance : Timer → ℕ → ℕ → ℕ
timer_advance t old now = when (unread t old == 0 && nat_lt 0 (unread t now)) IN
