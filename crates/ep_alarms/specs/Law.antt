-- What the end of an event leaves of the moments of timers.
use Rattle.std.specs.Prelude.{ℕ}
use Rattle.ep_alarms.specs.Alarms.{AreSet, LosesDying}
use Rattle.ep_calls.specs.Burial.{Burial}
use Rattle.ep_due.specs.DueMap.{Moments}
use Rattle.ep_interest.specs.Registrations.{Registrations}
use Rattle.ep_table.specs.Value.{Seen, Sound}

-- where the dying were taken out, each timer that the dead leave has its moment
abbrev pub BurialLaw : Type 0
BurialLaw = (n : ℕ) (v w : Seen) (r q : Registrations) (now : ℕ) (a b : Moments)
    → Burial n v r w q → Sound w → AreSet v now a → LosesDying v a b → AreSet w now b
