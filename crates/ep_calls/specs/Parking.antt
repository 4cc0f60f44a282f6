-- Parked waits over the parts of a kernel.
use Rattle.std.specs.Prelude.{Bool, false, ℕ, ◌==◌}
use Rattle.ep_base.specs.declared.ids.DescId.{DescId}
use Rattle.ep_interest.specs.Registrations.{Registrations}
use Rattle.ep_calls.specs.Raising.{raised_bits}
use Rattle.ep_calls.specs.Readiness.{readiness}
use Rattle.ep_calls.specs.Stands.{number_at}
use Rattle.ep_calls.specs.declared.raising.Raising.{Raising}
use Rattle.ep_calls.specs.declared.raising.Raising.TheVariants.{Instance}
use Rattle.ep_machine.specs.Bits.{IN, has_bit}
use Rattle.ep_table.specs.Value.{Seen}

-- something is reportable at the instance under a key
abbrev pub ready_key : Seen → ℕ → Registrations → ℕ → Bool
ready_key tables now interest key = readiness tables now interest (number_at tables.keys (record { 0 = key }))

-- the event raised IN at a number
abbrev pub raises_in : Raising → Seen → ℕ → ℕ → Bool
raises_in raising tables now d = has_bit (raised_bits raising tables now d) IN

-- the event is an epoll_ctl that raised IN at the instance under a key
abbrev pub raises_at : Raising → DescId → Bool
raises_at (Instance desc) key = desc.0 == key.0
raises_at raising key = false
