-- The clock's last moment.
use Rattle.std.specs.Prelude.{ℕ}

-- in microseconds since the clock began
abbrev pub last_moment : ℕ
last_moment = 1000000000000000
