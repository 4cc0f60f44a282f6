-- The spread in which of the exclusive registrations the chosen ones pass on, and no others.
use Rattle.std.specs.List.{IsDistinct}
use Rattle.std.specs.Prelude.{Bool, List, None, Option, Some, false, filter, map, nat_eq, not, true, ℕ, ◌==◌, ◌≡◌, ◌||◌}
use Rattle.ep_base.specs.Limits.{Limits}
use Rattle.ep_base.specs.declared.call.Event.{Event}
use Rattle.ep_base.specs.declared.record.Record.{Record}
use Rattle.ep_machine.specs.Effect.{first}
use Rattle.ep_machine.specs.Exclusive.{chosen_at, is_left, is_spread_to, is_woken}
use Rattle.ep_machine.specs.Refusal.{refusals}
use Rattle.ep_machine.specs.Run.{run}
use Rattle.ep_machine.specs.Settle.{settle}
use Rattle.ep_machine.specs.State.{Change, State, Waiter, Watch, opening}
use Rattle.ep_machine.specs.Step.{change, next_event}
use Rattle.ep_machine.specs.Watches.{is_exclusive, is_legal, links}
use Rattle.ep_law.specs.Laws.{Member, has_instance}

abbrev pub is_number_of : ℕ → Option Watch → Bool
is_number_of k None = false
is_number_of k (Some x) = x.number == k

-- it is chosen at its target
abbrev pub is_chosen : State → List (ℕ × ℕ) → List Waiter → Watch → Bool
is_chosen s raised ws x = is_number_of x.number (chosen_at s raised ws x.target)

abbrev pub narrowed : State → List (ℕ × ℕ) → List Waiter → State
narrowed s raised ws = record s { watches = filter (λ x. not (is_exclusive x) || is_chosen s raised ws x) s.watches }

-- the graph is legal, registrations are of instances and have numbers of their own, and exclusive ones are on no
-- instance
pub record IsRegular (s : State) : Type 0 where
  pub legal : is_legal (links s) ≡ true
  pub instances : (x : Watch) → Member x s.watches → has_instance s.files x.instance ≡ true
  pub exclusive : (x : Watch) → Member x s.watches → is_exclusive x ≡ true → has_instance s.files x.target ≡ false
  pub numbers : IsDistinct nat_eq (map (λ x. x.number) s.watches)

-- what an event wakes, its spread reaches if only the chosen ones of the exclusive registrations pass on; or a
-- caller left it
abbrev pub WokenIsNarrowed : Type 0
WokenIsNarrowed = (before s : State) (raised : List (ℕ × ℕ)) (ws : List Waiter) (e : ℕ)
    → IsRegular s → is_woken before s raised ws e ≡ (is_spread_to (narrowed s raised ws) raised e || is_left before s e)

-- each state of a run is regular
abbrev pub RunsAreRegular : Type 0
RunsAreRegular = (limits : Limits) (past : List Record) (s : State) → run limits opening past ≡ Some s → IsRegular s

-- and each to which an event that is not refused leads
abbrev pub ChangesAreRegular : Type 0
ChangesAreRegular = (limits : Limits) (past : List Record) (s : State) (caller : ℕ) (event : Event) (picked : List ℕ) (c : Change)
    → run limits opening past ≡ Some s → first (refusals limits (next_event s) caller event) ≡ None
    → change limits (next_event s) caller event picked ≡ Some c → IsRegular (settle (next_event s) c.1 c.2)
