-- Waiters under tickets, which rise in order of parking.
use Rattle.std.specs.BTreeMap.{BTreeMap, is_at}
use Rattle.std.specs.BTreeMap.Range.{IsRangeOf}
use Rattle.std.specs.List.{AllByRecursion}
use Rattle.std.specs.List.Sorted.{IsStrictlySortedBy}
use Rattle.std.specs.Map.{keys_of, lookup}
use Rattle.std.specs.Ordering.{nat_cmp, ordering_then}
use Rattle.std.specs.Prelude.{IsSome, List, None, Option, Some, [], if◌then◌else◌, map, nat_eq, ℕ, Bool, ◌==◌, ◌∷◌, ◌≡◌, ◌≤◌}
use Rattle.std.specs.declared.cmp.Ordering.{Ordering}
use Rattle.std.specs.declared.ops.Bound.TheVariants.{Included}
use Rattle.ep_base.specs.declared.ids.CallerId.{CallerId}
use Rattle.ep_park.specs.declared.place.Place.{Place}
use Rattle.ep_park.specs.declared.turn.Turn.{Turn}
use Rattle.ep_park.specs.declared.waiter.Waiter.{Waiter}

-- callers with their waiters, in order
abbrev pub in_turn : List (ℕ × Turn) → List (ℕ × Waiter)
in_turn ts = map (λ e. (e.1.caller.0, e.1.waiter)) ts

-- one caller's waiter has this mark
abbrev pub marked_in : ℕ → Bool → List (ℕ × Waiter) → List (ℕ × Waiter)
marked_in caller marked [] = []
marked_in caller marked (e ∷ es) = if nat_eq caller e.0 then (e.0, record e.1 { marked = marked }) ∷ es else e ∷ marked_in caller marked es

-- what `cmp` computes of two places
abbrev pub place_cmp : Place → Place → Ordering
place_cmp a b = ordering_then (nat_cmp a.instance b.instance) (nat_cmp a.ticket b.ticket)

abbrev pub place_at : ℕ → ℕ → Place
place_at instance ticket = record { instance = instance; ticket = ticket }

abbrev pub caller_under : List (Place × CallerId) → ℕ → ℕ → Option CallerId
caller_under places instance ticket = lookup (is_at (place_cmp (place_at instance ticket))) places

-- the caller of a turn, where it waits at this instance
abbrev pub caller_at : ℕ → Option Turn → Option CallerId
caller_at instance None = None
caller_at instance (Some t) = if t.waiter.instance.0 == instance then Some t.caller else None

-- tickets rise, and none is above the last
pub record AreNumbered (turns : List (ℕ × Turn)) (last : ℕ) : Type 0 where
  pub rise : IsStrictlySortedBy nat_cmp (keys_of turns)
  pub within : AllByRecursion (λ ticket. ticket ≤ last) (keys_of turns)

-- the turn of a caller's ticket is its own
pub record IsTurnOf (turns : List (ℕ × Turn)) (caller ticket : ℕ) : Type 0 where
  pub turn : Turn
  pub found : lookup (nat_eq ticket) turns ≡ Some turn
  pub own : turn.caller.0 ≡ caller

-- each caller has its turn's ticket, and nobody else has one
pub record HaveTickets (turns : List (ℕ × Turn)) (tickets : List (ℕ × ℕ)) : Type 0 where
  pub each : AllByRecursion (λ e. lookup (nat_eq e.1.caller.0) tickets ≡ Some e.0) turns
  pub there : (caller ticket : ℕ) → lookup (nat_eq caller) tickets ≡ Some ticket → IsTurnOf turns caller ticket

-- each instance has the places of its waiters
pub record HavePlaces (turns : List (ℕ × Turn)) (places : List (Place × CallerId)) : Type 0 where
  pub at : (instance ticket : ℕ) → caller_under places instance ticket ≡ caller_at instance (lookup (nat_eq ticket) turns)

pub record IsQueue (turns : List (ℕ × Turn)) (tickets : List (ℕ × ℕ)) (places : List (Place × CallerId)) (last : ℕ) : Type 0 where
  pub numbered : AreNumbered turns last
  pub ticketed : HaveTickets turns tickets
  pub placed : HavePlaces turns places

-- the places of an instance with tickets up to the last
abbrev pub ArePlacesOf : BTreeMap Place CallerId → ℕ → ℕ → List (Place × CallerId) → Type 0
ArePlacesOf places instance last r = IsRangeOf place_cmp (Included (place_at instance 0)) (Included (place_at instance last)) places r

-- nobody has a place at the instance
abbrev pub HasNoPlace : List (Place × CallerId) → ℕ → ℕ → Type 0
HasNoPlace places instance last = (ticket : ℕ) → ticket ≤ last → caller_under places instance ticket ≡ None

-- nobody's ticket at the instance is smaller than this caller's
pub record IsFirstPlace (places : List (Place × CallerId)) (instance last : ℕ) (caller : CallerId) : Type 0 where
  pub ticket : ℕ
  pub its : caller_under places instance ticket ≡ Some caller
  pub least : (other : ℕ) → other ≤ last → IsSome (caller_under places instance other) → ticket ≤ other
