-- Which instances IN reaches in an event.
use Rattle.std.specs.List.{Contains}
use Rattle.std.specs.Prelude.{◌++◌, ◌≡◌, ◌<◌, ◌⊎◌, ◌↔◌, ◌==◌, ◌&&◌, ◌||◌, Bool, IsSome, List, None, Option, Some, if◌then◌else◌, is_some, true, ℕ}
use Rattle.ep_base.specs.declared.ids.DescId.{DescId}
use Rattle.ep_base.specs.declared.ids.EntryId.{EntryId}
use Rattle.ep_calls.specs.Climb.{is_reached_key}
use Rattle.ep_climb.specs.declared.ascending.Along.{Along}
use Rattle.ep_climb.specs.declared.ascending.Along.TheVariants.{Every, Open}
use Rattle.ep_interest.specs.Registrations.{Registrations, entry_under, lets_in}
use Rattle.ep_interest.specs.declared.entry.Entry.{Entry}
use Rattle.ep_machine.specs.Lists.{is_among}
use Rattle.ep_nest.specs.Chains.{IsAbove}
use Rattle.ep_nest.specs.Links.{admitted_by, edges, ends}
use Rattle.ep_nest.specs.declared.link.Link.{Link}
use Rattle.ep_nest.specs.declared.link.Way.TheVariants.{Up}
use Rattle.ep_rings.specs.KeyWalk.{entry_id}
use Rattle.ep_walk.specs.Walk.{Walk}
use Rattle.ep_table.specs.Value.{Seen, number_under}

-- the instance to which it passes something on that was raised at its target in event n
abbrev pub passed_by : ℕ → Option Entry → Option DescId
passed_by n None = None
passed_by n (Some x) = if x.passes_in == n then Some x.instance else None

-- by keys: from each instance to those from which IN goes on to it
abbrev pub open_edges : Registrations → List Link → List (ℕ × ℕ)
open_edges r ls = edges (admitted_by (λ k. lets_in (entry_under r (entry_id k))) ls)

-- a walk goes by the link of the registration under a key
abbrev pub is_along : Along → ℕ → Bool
is_along Every k = true
is_along (Open r) k = lets_in (entry_under r.now (entry_id k))

-- by keys: from each instance to those above it to which such a walk goes on
abbrev pub edges_along : Along → List Link → List (ℕ × ℕ)
edges_along a ls = edges (admitted_by (is_along a) ls)

-- it goes by one of these links to an instance
abbrev pub are_outer : Along → List Link → ℕ → Bool
are_outer a ls = is_among (ends Up (admitted_by (is_along a) ls))

abbrev pub IsFrom : List (ℕ × ℕ) → ℕ → ℕ → Type 0
IsFrom es i j = (i ≡ j) ⊎ IsAbove es i j

-- what is above a key of a list is in the list
abbrev pub IsClosed : List (ℕ × ℕ) → List ℕ → Type 0
IsClosed es ks = (i j : ℕ) → is_among ks j ≡ true → IsAbove es i j → is_among ks i ≡ true

-- a walk has room for the instance of each registration
abbrev pub AreRoomy : Registrations → Walk → Type 0
AreRoomy r w = (id : EntryId) (x : Entry) → entry_under r id ≡ Some x → x.instance.0 < w.room

-- and for the instance from which each link leads
abbrev pub AreHome : List Link → Walk → Type 0
AreHome ls w = (link : Link) → Contains ls link → link.outer.0 < w.room

-- the second list begins with the first
abbrev pub IsGrown : List ℕ → List ℕ → Type 0
IsGrown old new = (more : List ℕ) × (new ≡ old ++ more)

-- the walk reaches these instances, too, after those that it had reached
pub record Reaches (f : ℕ → Bool) (old new : Walk) : Type 0 where
  pub room : new.room ≡ old.room
  pub grown : IsGrown old.reached new.reached
  pub each : (i : ℕ) → is_among new.reached i ≡ (is_among old.reached i || f i)

-- and this one, with those above it
pub record Ascends (es : List (ℕ × ℕ)) (j : ℕ) (old new : Walk) : Type 0 where
  pub room : new.room ≡ old.room
  pub grown : IsGrown old.reached new.reached
  pub exact : (i : ℕ) → (is_among new.reached i ≡ true) ↔ ((is_among old.reached i ≡ true) ⊎ IsFrom es i j)

-- the same, where there is one
pub record AscendsFrom (es : List (ℕ × ℕ)) (o : Option DescId) (old new : Walk) : Type 0 where
  pub room : new.room ≡ old.room
  pub exact : (i : ℕ) → (is_among new.reached i ≡ true) ↔ ((is_among old.reached i ≡ true) ⊎ ((d : DescId) × (o ≡ Some d) × IsFrom es i d.0))

-- the registration under a key passes something on to an instance
abbrev pub PassesTo : ℕ → Registrations → ℕ → DescId → Type 0
PassesTo n r k d = passed_by n (entry_under r (entry_id k)) ≡ Some d

-- the walk reaches exactly the instances to which something is passed on, and those above them
pub record Walks (n : ℕ) (r : Registrations) (ls : List Link) (old new : Walk) : Type 0 where
  pub room : new.room ≡ old.room
  pub sound : (i : ℕ) → is_among new.reached i ≡ true → (k : ℕ) × (d : DescId) × PassesTo n r k d × IsFrom (open_edges r ls) i d.0
  pub complete : (i k : ℕ) (d : DescId) → PassesTo n r k d → IsFrom (open_edges r ls) i d.0 → is_among new.reached i ≡ true

-- the keys of the walk are exactly those of the instances that IN reaches from below in event n
abbrev pub AreReached : ℕ → Seen → Registrations → List ℕ → Type 0
AreReached n v r ks = (i : DescId) → is_among ks i.0 ≡ (is_some (number_under v i) && is_reached_key n v r i)

-- the keys of a walk are those of descriptions that live
abbrev pub AreLive : Seen → List ℕ → Type 0
AreLive v ks = (i : DescId) → is_among ks i.0 ≡ true → IsSome (number_under v i)
