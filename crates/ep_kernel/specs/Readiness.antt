-- What the registrations under keys show.
use Rattle.std.specs.Prelude.{◌≡◌, Bool, None, Option, Some, false, filter, if◌then◌else◌, ℕ}
use Rattle.ep_base.specs.declared.ids.DescId.{DescId}
use Rattle.ep_base.specs.declared.ids.EntryId.{EntryId}
use Rattle.ep_calls.specs.Parts.{Parts}
use Rattle.ep_calls.specs.Readiness.{entry_shows}
use Rattle.ep_calls.specs.Stands.{watch_at}
use Rattle.ep_interest.specs.declared.entry.Entry.{Entry}
use Rattle.ep_nest.specs.Chains.{LeadsBy}
use Rattle.ep_nest.specs.Links.{edges}
use Rattle.ep_ready.specs.ReadyLists.{Lists, instance_at, list_at}
use Rattle.ep_view.specs.KernelView.{watches_instance}

-- the instance that a registration watches
abbrev pub nested_found : Parts → Option Entry → Option DescId
nested_found p None = None
nested_found p (Some x) = if watches_instance p.tables.files (watch_at p.tables.keys x) then Some x.desc else None

-- whether it is reportable, where `ready` says which instances are ready
abbrev pub found_shows : (ℕ → Bool) → Parts → Option Entry → Bool
found_shows ready p None = false
found_shows ready p (Some x) = entry_shows ready p.tables p.clock x

-- no chain of so many links leads down from an instance
abbrev pub EndsWithin : ℕ → Parts → DescId → Type 0
EndsWithin links p instance = (y : ℕ) → ¬ LeadsBy (edges p.graph) links instance.0 y

-- places stay, and of each list what passes a test, in its order
pub record Prunes (old new : Lists) : Type 0 where
  pub keeps : ℕ → Bool
  pub places : (id : EntryId) → instance_at new id ≡ instance_at old id
  pub lists : (i : ℕ) → list_at new i ≡ filter keeps (list_at old i)
