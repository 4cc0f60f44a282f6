-- What arrives at timers by the clock going on.
use Rattle.std.specs.List.{list_any}
use Rattle.std.specs.Prelude.{Bool, Option, Some, nat_lt, ℕ, ◌≡◌}
use Rattle.ep_machine.specs.Files.{Files, live}
use Rattle.ep_machine.specs.Objects.{advance}
use Rattle.ep_machine.specs.Waits.{is_due}
use Rattle.ep_base.specs.declared.ids.DescId.{DescId}
use Rattle.ep_calls.specs.Raising.{clock_bits}
use Rattle.ep_table.specs.Value.{Seen, content_of, number_of}

-- a bit at some description that lives
abbrev pub arrives_by : Files → ℕ → ℕ → Bool
arrives_by files since now = list_any (λ x. nat_lt 0 (clock_bits files since now (Some x.1))) (live files)

-- a bit at the description under a key
abbrev pub arrives_at : Seen → ℕ → ℕ → DescId → Bool
arrives_at v since now desc = nat_lt 0 (advance (content_of v.files (number_of v desc)) since now)

-- the first moment after one at which a bit arrives, or none: it is there exactly where a bit has arrived
abbrev pub TellsArrival : Files → ℕ → Option ℕ → Type 0
TellsArrival files since first = (moment : ℕ) → is_due moment first ≡ arrives_by files since moment
