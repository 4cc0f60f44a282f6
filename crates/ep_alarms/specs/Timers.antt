-- The live timers of the tables.
use Rattle.std.specs.Prelude.{None, Option, Some, ℕ}
use Rattle.ep_machine.specs.Files.{Files}
use Rattle.ep_machine.specs.Timer.{Timer}
use Rattle.ep_object.specs.Next.{timer_of}
use Rattle.ep_table.specs.Live.{key_of}
use Rattle.ep_table.specs.Value.{Seen, content_of, number_under}

-- the timer of a description, where it is one
abbrev pub timer_at : Files → Option ℕ → Option Timer
timer_at files None = None
timer_at files (Some d) = timer_of (content_of files d)

-- the timer under a key, where a live one is there
abbrev pub timer_under : Seen → ℕ → Option Timer
timer_under v k = timer_at v.files (number_under v (key_of k))
