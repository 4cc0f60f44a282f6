-- What a wait that scans reports.
use Rattle.std.specs.Prelude.{◌≡◌, List, filter, map, take, ℕ}
use Rattle.std.specs.List.Sorted.{IsNonDecreasingBy, IsPermutation}
use Rattle.ep_base.specs.declared.ids.DescId.{DescId}
use Rattle.ep_interest.specs.Registrations.{Registrations, is_of}
use Rattle.ep_interest.specs.declared.entry.Entry.{Entry}
use Rattle.ep_table.specs.Value.{Seen}
use Rattle.ep_calls.specs.Readiness.{entry_shows, readiness}
use Rattle.ep_calls.specs.Wait.{AreKeyed}
use Rattle.ep_calls.specs.declared.wait.Reportable.{Reportable}

-- the registrations of an instance that are reportable, in order of registration
abbrev pub reportables_at : Seen → ℕ → Registrations → DescId → List Entry
reportables_at tables now interest instance = filter (entry_shows (readiness tables now interest) tables now) (filter (is_of instance) interest.entries)

-- the longest unreported of those that show something, at most so many
pub record IsChosen (tables : Seen) (now : ℕ) (interest : Registrations) (instance : DescId) (most : ℕ) (chosen : List Reportable) : Type 0 where
  pub found : List Entry
  pub moved : IsPermutation (reportables_at tables now interest instance) found
  pub sorted : IsNonDecreasingBy (λ x. x.reported_in) found
  pub taken : map (λ x. x.entry) chosen ≡ take most found
  pub keyed : AreKeyed tables now interest chosen
