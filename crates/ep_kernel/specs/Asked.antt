-- What instances answered to the question whether they are ready.
use Rattle.std.specs.Prelude.{◌≡◌, Bool, List, None, Option, Some, false, if◌then◌else◌, true, ℕ}
use Rattle.ep_calls.specs.Parking.{ready_key}
use Rattle.ep_calls.specs.Parts.{Parts}
use Rattle.ep_interest.specs.Registrations.{Registrations}
use Rattle.ep_kernel.specs.Listed.{HopesFor}
use Rattle.ep_kernel.specs.declared.asked.Asked.{Asked}
use Rattle.ep_machine.specs.Lists.{is_among}
use Rattle.ep_machine.specs.State.{Waiter}
use Rattle.ep_nest.specs.declared.link.Link.{Link}
use Rattle.ep_walk.specs.Walk.{with_noted}
use Rattle.ep_table.specs.Value.{Seen}

-- the answer of an instance, where it is known
abbrev pub answer_of : Asked → ℕ → Option Bool
answer_of a i = if is_among a.ready.reached i then Some true else if is_among a.idle.reached i then Some false else None

-- with the answer of one more, where there is room for it
abbrev pub noted : Asked → ℕ → Bool → Asked
noted a i true = record a { ready = with_noted a.ready i }
noted a i false = record a { idle = with_noted a.idle i }

-- each answer is that of a test
pub record AreOf (test : ℕ → Bool) (a : Asked) : Type 0 where
  pub ready : (i : ℕ) → is_among a.ready.reached i ≡ true → test i ≡ true
  pub idle : (i : ℕ) → is_among a.idle.reached i ≡ true → test i ≡ false

-- each answer is true of the parts
abbrev pub AreTrue : Parts → Asked → Type 0
AreTrue p a = AreOf (ready_key p.tables p.clock p.interest) a

-- and what is reportable is among the hopes
pub record Knows (p : Parts) (a : Asked) : Type 0 where
  pub told : AreTrue p a
  pub hopes : HopesFor p a.hopes

-- the same of any parts with these tables, clock and registrations
abbrev pub KnowsIn : Asked → Seen → ℕ → Registrations → Type 0
KnowsIn a v now r = (graph : List Link) (ws : List Waiter) → Knows (record { tables = v; interest = r; graph = graph; parked = ws; clock = now }) a
