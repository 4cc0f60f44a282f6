-- What is kept of each instance that has waiters.
use Rattle.std.specs.List.{count_by, find}
use Rattle.std.specs.Map.{lookup}
use Rattle.std.specs.Option.{option_map}
use Rattle.std.specs.Prelude.{Bool, List, None, Option, Some, nat_eq, ℕ, ◌&&◌, ◌+◌, ◌-◌, ◌≡◌, if◌then◌else◌}
use Rattle.ep_machine.specs.State.{Waiter as Parked}
use Rattle.ep_park.specs.Waiters.{is_at, listed}
use Rattle.ep_base.specs.declared.ids.CallerId.{CallerId}
use Rattle.ep_park.specs.declared.tally.Tally.{Tally}
use Rattle.ep_park.specs.declared.waiter.Waiter.{Waiter}

abbrev pub is_marked_of : ℕ → Parked → Bool
is_marked_of instance w = is_at instance w && w.marked

-- the caller of an instance that was parked first
abbrev pub first_at : ℕ → List Parked → Option ℕ
first_at instance ws = option_map (λ w. w.caller) (find (is_at instance) ws)

abbrev pub tally_by : ℕ → ℕ → Tally
tally_by marked caller = record { first = record { 0 = caller }; marked = marked }

-- who was parked first and how many are marked; none for an instance without waiters
abbrev pub tally_of : ℕ → List Parked → Option Tally
tally_of instance ws = option_map (tally_by (count_by (is_marked_of instance) ws)) (first_at instance ws)

pub record IsTallied (waiters : List (ℕ × Waiter)) (tallies : List (ℕ × Tally)) : Type 0 where
  pub of : (instance : ℕ) → lookup (nat_eq instance) tallies ≡ tally_of instance (listed waiters)

abbrev pub bit : Bool → ℕ
bit b = if b then 1 else 0

-- a caller is parked behind those of a tally
abbrev pub joined : Option Tally → ℕ → Bool → Tally
joined None caller marked = tally_by (bit marked) caller
joined (Some t) caller marked = record t { marked = t.marked + bit marked }

-- another mark in the place of an old one
abbrev pub remarked : Bool → Bool → Tally → Tally
remarked old new t = record t { marked = (t.marked - bit old) + bit new }

-- a caller has left, and the first of the rest is as given
abbrev pub left : Bool → Tally → Option CallerId → Option Tally
left marked t None = None
left marked t (Some caller) = Some (record { first = caller; marked = t.marked - bit marked })

-- what is kept under one key is as given, the others stay
abbrev pub Rewrites : {X : Type 0} → List (ℕ × X) → List (ℕ × X) → ℕ → Option X → Type 0
Rewrites old new key x = (e : ℕ) → lookup (nat_eq e) new ≡ (if nat_eq key e then x else lookup (nat_eq e) old)
