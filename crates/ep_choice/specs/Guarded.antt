-- Which instances are guarded, by their keys.
use Rattle.std.specs.List.{list_any}
use Rattle.std.specs.Prelude.{Bool, filter, ℕ}
use Rattle.ep_base.specs.declared.ids.DescId.{DescId}
use Rattle.ep_calls.specs.Readiness.{watches_of}
use Rattle.ep_calls.specs.Stands.{number_at}
use Rattle.ep_interest.specs.Exclusive.{is_exclusive}
use Rattle.ep_interest.specs.Registrations.{Registrations, is_of}
use Rattle.ep_table.specs.Value.{Seen}
use Rattle.ep_view.specs.Marking.{guarded_now}

-- an instance has an exclusive registration
abbrev pub has_exclusive : Registrations → DescId → Bool
has_exclusive r instance = list_any is_exclusive (filter (is_of instance) r.entries)

-- it has one, or an instance beneath it has
abbrev pub guarded_key : Seen → Registrations → ℕ → Bool
guarded_key v r key = guarded_now (watches_of v r) (number_at v.keys (record { 0 = key }))
