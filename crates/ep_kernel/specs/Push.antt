-- Which registrations come to the end of their lists.
use Rattle.std.specs.List.{list_any}
use Rattle.std.specs.Prelude.{◌≡◌, ◌&&◌, ◌++◌, ◌==◌, ◌||◌, Bool, List, None, Option, Some, false, filter, nat_lt, ℕ}
use Rattle.ep_base.specs.declared.ids.DescId.{DescId}
use Rattle.ep_base.specs.declared.ids.EntryId.{EntryId}
use Rattle.ep_calls.specs.Climb.{is_nested_key}
use Rattle.ep_calls.specs.Parts.{Parts}
use Rattle.ep_interest.specs.Passes.{has_id}
use Rattle.ep_interest.specs.Registrations.{entry_under, ids, is_on, lets_in}
use Rattle.ep_interest.specs.declared.entry.Entry.{Entry}
use Rattle.ep_climb.specs.Reach.{AreReached}
use Rattle.ep_kernel.specs.Beside.{Alike}
use Rattle.ep_kernel.specs.Listed.{may_stand}
use Rattle.ep_kernel.specs.declared.beside.Beside.{Beside}
use Rattle.ep_machine.specs.Lists.{is_among}
use Rattle.ep_nest.specs.declared.link.Link.{Link}
use Rattle.ep_calls.specs.Climb.{is_reached_key}
use Rattle.ep_rings.specs.KeyWalk.{entry_id}
use Rattle.ep_ready.specs.ReadyLists.{Lists, instance_at, list_at}

-- whether a place is on the list of an instance
abbrev pub is_home : ℕ → Option ℕ → Bool
is_home i None = false
is_home i (Some j) = j == i

-- each list goes on behind its end: what comes stands on the list of its place, and what stood there stands still
pub record Gains (comes : ℕ → Bool) (old new : Lists) : Type 0 where
  pub places : (id : EntryId) → instance_at new id ≡ instance_at old id
  pub more : ℕ → List ℕ
  pub lists : (i : ℕ) → list_at new i ≡ list_at old i ++ more i
  pub each : (i k : ℕ) → is_among (list_at new i) k ≡ (is_among (list_at old i) k || comes k && is_home i (instance_at old (entry_id k)))

-- it passes something on that was raised at its target
abbrev pub passes_found : Option Entry → Bool
passes_found None = false
passes_found (Some x) = nat_lt 0 x.passes_in && may_stand x

-- a registration through which IN comes from an instance
abbrev pub comes_on : Parts → DescId → ℕ → Bool
comes_on p desc k = is_nested_key p.tables desc && (has_id (ids p.interest (filter (is_on desc) p.interest.entries)) k && lets_in (entry_under p.interest (entry_id k)))

-- a registration through which IN comes from an instance that IN reaches in event n
abbrev pub comes_by : ℕ → Parts → Link → ℕ → Bool
comes_by n p l k = is_reached_key n p.tables p.interest l.inner && (has_id (ids p.interest (filter (is_on l.inner) p.interest.entries)) k && lets_in (entry_under p.interest (entry_id k)))

-- what passes something of event n on
abbrev pub comes_in : ℕ → Parts → ℕ → Bool
comes_in n p k = passes_found (entry_under p.interest (entry_id k)) || list_any (λ l. comes_by n p l k) p.graph

-- what passes something of event n on comes to the lists and the hopes, and what the event reaches is noted
pub record Climbs (n : ℕ) (p : Parts) (old new : Beside) : Type 0 where
  pub gains : Alike (Gains (comes_in n p)) old new
  pub reached : AreReached n p.tables p.interest new.reached.reached
  pub room : new.reached.room ≡ old.reached.room
  pub choice : new.choice ≡ old.choice
