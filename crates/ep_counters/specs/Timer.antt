-- When a timer next becomes readable.
use Rattle.std.specs.Prelude.{None, Option, Some, if◌then◌else◌, nat_lt, ℕ, ◌&&◌, ◌*◌, ◌+◌, ◌-◌, ◌<◌, ◌==◌}
use Rattle.std.specs.Prelude.{◌≡◌, ◌≤◌}
use Rattle.ep_machine.specs.Timer.{Timer, last_moment, unread}

-- IN arrives: unread goes from 0 to more at this moment
abbrev pub Arrives : Timer → ℕ → Type 0
Arrives t moment = (unread t (moment - 1) ≡ 0) × (0 < unread t moment)

-- the first such moment after now, or none where there is none
abbrev pub IsNextArrival : Timer → ℕ → Option ℕ → Type 0
IsNextArrival t now None = (moment : ℕ) → now < moment → ¬ Arrives t moment
IsNextArrival t now (Some first) = (now < first) × Arrives t first × ((moment : ℕ) → now < moment → moment < first → ¬ Arrives t moment)

-- the expiration that follows so many falls within twice the longest time
abbrev pub IsInRange : Option ℕ → ℕ → ℕ → Type 0
IsInRange None interval past = interval ≤ last_moment
IsInRange (Some moment) interval past = (interval ≤ last_moment) × (moment + past * interval ≤ 2 * last_moment)

-- the moment of the expiration that follows so many
abbrev pub expiration_from : Option ℕ → ℕ → ℕ → Option ℕ
expiration_from None interval past = None
expiration_from (Some moment) interval past = if interval == 0 && nat_lt 0 past then None else Some (moment + past * interval)

abbrev pub expiration_after : Timer → ℕ → Option ℕ
expiration_after t past = expiration_from t.first_moment t.interval past
