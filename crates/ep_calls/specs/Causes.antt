-- Why a registration is reportable at the end of an event.
use Rattle.std.specs.Prelude.{◌≡◌, ◌⊎◌, ◌&&◌, Bool, None, nat_lt, true, ℕ}
use Rattle.ep_base.specs.Limits.{Limits}
use Rattle.ep_base.specs.declared.call.Event.{Event}
use Rattle.ep_calls.specs.Climb.{is_nested}
use Rattle.ep_calls.specs.Parts.{Parts}
use Rattle.ep_calls.specs.Readiness.{entry_shows, readiness}
use Rattle.ep_calls.specs.Stands.{number_at}
use Rattle.ep_interest.specs.declared.entry.Entry.{Entry}
use Rattle.ep_law.specs.Laws.{Member}
use Rattle.ep_machine.specs.Bits.{IN, asked}
use Rattle.ep_machine.specs.Effect.{first}
use Rattle.ep_machine.specs.Readiness.{is_reportable}
use Rattle.ep_machine.specs.Refusal.{refusals}
use Rattle.ep_machine.specs.State.{State, Watch}
use Rattle.ep_machine.specs.Watches.{number_in}
use Rattle.ep_order.specs.Event.{IsAltered}
use Rattle.ep_table.specs.Value.{Seen}

-- the registration with this number was reportable
pub record WasReportable (s : State) (number : ℕ) : Type 0 where
  pub was : Watch
  pub there : Member was s.watches
  pub same : was.number ≡ number
  pub shown : is_reportable s was ≡ true

-- the event is an epoll_ctl that isn't refused, and added or modified this registration; once it had, that was
-- reportable
pub record WasAltered (limits : Limits) (s : State) (caller : ℕ) (event : Event) (mid : Parts) (v : Seen) (x : Entry) : Type 0 where
  pub allowed : first (refusals limits s caller event) ≡ None
  pub left : Watch
  pub instance : number_at v.keys x.instance ≡ left.instance
  pub fd : number_in x.fd.0 ≡ left.fd
  pub target : number_at v.keys x.desc ≡ left.target
  pub altered : IsAltered s event left
  pub shown : (z : Entry) → Member z mid.interest.entries → z.number ≡ x.number → entry_shows (readiness mid.tables mid.clock mid.interest) mid.tables mid.clock z ≡ true

-- IN comes through it from an instance that IN reached
abbrev pub is_above : (ℕ → Bool) → Seen → Entry → Bool
is_above reached v x = x.armed && nat_lt 0 (asked x.mask.0 IN) && is_nested v x && reached (number_at v.keys x.desc)

-- it was so before, passes something on, is on an instance that IN reached, or was added or modified
abbrev pub HasCause : Limits → State → ℕ → Event → Parts → Seen → (ℕ → Bool) → Entry → Type 0
HasCause limits s caller event mid v reached x =
    WasReportable s x.number ⊎ ((nat_lt 0 x.passes_in ≡ true) ⊎ ((is_above reached v x ≡ true) ⊎ WasAltered limits s caller event mid v x))
