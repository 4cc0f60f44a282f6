-- Registrations with EXCLUSIVE: which instances they guard, and which of those an event wakes.
use Rattle.std.specs.List.{find, list_any}
use Rattle.std.specs.Prelude.{Bool, List, None, Option, Some, [], filter, false, nat_lt, not, suc, zero, ℕ}
use Rattle.std.specs.Prelude.{◌&&◌, ◌==◌, ◌||◌, ◌∷◌}
use Rattle.ep_machine.specs.Bits.{IN, asked, has_bit}
use Rattle.ep_machine.specs.Readiness.{is_ready}
use Rattle.ep_machine.specs.Spread.{raised_of, spread}
use Rattle.ep_machine.specs.State.{State, Waiter, Watch}
use Rattle.ep_machine.specs.Waits.{is_marked_at, is_parked, waits_at}
use Rattle.ep_machine.specs.Watches.{is_exclusive}

-- looking down through at most so many instances
abbrev pub is_guarded_within : ℕ → State → ℕ → Bool
is_guarded_within zero s e = false
is_guarded_within (suc levels) s e =
    list_any (λ x. x.instance == e && (is_exclusive x || is_guarded_within levels s x.target)) s.watches

-- An exclusive registration is in it or in an instance beneath it. The longest chain of instances has five.
unfoldable pub is_guarded : State → ℕ → Bool
is_guarded s e = is_guarded_within 5 s e

-- the spread reaches it
abbrev pub is_spread_to : State → List (ℕ × ℕ) → ℕ → Bool
is_spread_to s raised e = has_bit (spread s raised e) IN

-- the spread reaches it with exclusive registrations left out
abbrev pub is_spread_plainly : State → List (ℕ × ℕ) → ℕ → Bool
is_spread_plainly s raised e =
    is_spread_to (record s { watches = filter (λ x. not (is_exclusive x)) s.watches }) raised e

-- it is the instance below, or above that one by the spread
abbrev pub is_up_from : State → ℕ → ℕ → Bool
is_up_from s below e = is_spread_to s ((below, IN) ∷ []) e

-- it is ready, has a waiter and has none marked
abbrev pub is_awaited : State → List Waiter → ℕ → Bool
is_awaited s ws e = is_ready s e && waits_at ws e && not (is_marked_at ws e)

-- its instance is awaited, or one above that by the spread
abbrev pub finds_waiter : State → List Waiter → Watch → Bool
finds_waiter s ws x = list_any (λ w. is_up_from s x.instance w.instance && is_awaited s ws w.instance) ws

-- it is an armed exclusive registration on target d, and a raised bit is in its mask
abbrev pub is_asked_at : List (ℕ × ℕ) → ℕ → Watch → Bool
is_asked_at raised d x =
    is_exclusive x && x.target == d && x.armed && nat_lt 0 (asked x.mask (raised_of raised d))

-- of these the first in order of registration that finds a waiter
abbrev pub chosen_at : State → List (ℕ × ℕ) → List Waiter → ℕ → Option Watch
chosen_at s raised ws d = find (λ x. is_asked_at raised d x && finds_waiter s ws x) s.watches

abbrev pub is_up_from_chosen : State → Option Watch → ℕ → Bool
is_up_from_chosen s None e = false
is_up_from_chosen s (Some x) e = is_up_from s x.instance e

-- a caller that was parked at it left
abbrev pub is_left : State → State → ℕ → Bool
is_left before after e = list_any (λ w. w.instance == e && not (is_parked after w.caller)) before.waiters

-- The event wakes it. `raised` is what the change and the deaths raised; `ws` are the waiters with the marks for
-- deadlines, and no others.
abbrev pub is_woken : State → State → List (ℕ × ℕ) → List Waiter → ℕ → Bool
is_woken before s raised ws e =
    is_spread_plainly s raised e
    || list_any (λ r. is_up_from_chosen s (chosen_at s raised ws r.0) e) raised
    || is_left before s e

-- it gets a mark, if it has none
abbrev pub gets_mark : State → State → List (ℕ × ℕ) → List Waiter → ℕ → Bool
gets_mark before s raised ws e = is_ready s e && (not (is_guarded s e) || is_woken before s raised ws e)
