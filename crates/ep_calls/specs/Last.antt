-- That nothing refuses an event: only then may it be answered ENOMEM.
use Rattle.std.specs.Prelude.{◌≡◌, Bool, List, None, ℕ}
use Rattle.ep_base.specs.declared.call.Call.{Call}
use Rattle.ep_base.specs.declared.call.Event.{Event}
use Rattle.ep_base.specs.declared.errno.Errno.{Errno}
use Rattle.ep_machine.specs.Effect.{first}
use Rattle.ep_machine.specs.Refusal.{call_refusals, refusals}
use Rattle.ep_machine.specs.State.{State}
use Rattle.ep_calls.specs.Moves.{MovesBy}
use Rattle.ep_calls.specs.Parts.{Parts}

-- from these states of the machine none of these refusals holds
abbrev pub RefusesNone : ((State → Type 0) → Type 0) → (State → List (Bool × Errno)) → Type 0
RefusesNone From tests = From (λ s. first (tests s) ≡ None)

-- whatever the number of the event, no refusal of a call holds
abbrev pub NothingRefusesCall : Parts → ℕ → Call → Type 0
NothingRefusesCall old p call = (n : ℕ) → RefusesNone (MovesBy n old) (λ s. call_refusals old.tables.limits s p call)

-- and none of an event
abbrev pub NothingRefuses : Parts → ℕ → Event → Type 0
NothingRefuses old caller event = (n : ℕ) → RefusesNone (MovesBy n old) (λ s. refusals old.tables.limits s caller event)
