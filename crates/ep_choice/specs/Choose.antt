-- Which of the exclusive registrations on a description an event wakes.
use Rattle.std.specs.List.{find, list_any}
use Rattle.std.specs.Option.{option_map}
use Rattle.std.specs.Prelude.{All, Bool, IsSome, List, None, Option, Some, false, filter, if◌then◌else◌, map, not, true, ℕ, ◌&&◌, ◌<◌, ◌==◌, ◌≡◌}
use Rattle.ep_base.specs.declared.ids.DescId.{DescId}
use Rattle.ep_base.specs.declared.ids.EntryId.{EntryId}
use Rattle.ep_calls.specs.Climb.{is_nested_key}
use Rattle.ep_calls.specs.Parking.{ready_key}
use Rattle.ep_calls.specs.Parts.{Parts}
use Rattle.ep_calls.specs.Readiness.{readiness, watches_of}
use Rattle.ep_calls.specs.Stands.{waiters_at, watch_at}
use Rattle.ep_climb.specs.Reach.{IsClosed, open_edges}
use Rattle.ep_interest.specs.Exclusive.{exclusive_of, is_exclusive}
use Rattle.ep_interest.specs.Registrations.{Registrations, entry_under, is_on, number_under as entry_number, with_ids}
use Rattle.ep_interest.specs.declared.entry.Entry.{Entry}
use Rattle.ep_machine.specs.Lists.{is_among}
use Rattle.ep_machine.specs.State.{Waiter}
use Rattle.ep_machine.specs.Waits.{is_marked_at, waits_at}
use Rattle.ep_walk.specs.Walk.{Walk, with_reached}
use Rattle.ep_table.specs.Value.{Seen, number_of}
use Rattle.ep_view.specs.Marking.{choice_at, finds_now}

-- the instance under a key is ready, has a waiter and has none marked
abbrev pub awaited_key : Seen → ℕ → Registrations → List Waiter → ℕ → Bool
awaited_key v now r ws key = ready_key v now r key && waits_at ws key && not (is_marked_at ws key)

-- these have with each instance those above it to which IN goes on from there, and none of them is
pub record IsVain (p : Parts) (ks : List ℕ) : Type 0 where
  pub closed : IsClosed (open_edges p.interest p.graph) ks
  pub none : list_any (awaited_key p.tables p.clock p.interest p.parked) ks ≡ false

-- its instance is, or one above it to which IN goes on from there
abbrev pub finds_entry : Seen → ℕ → Registrations → List Waiter → Entry → Bool
finds_entry v now r ws x = finds_now v.files (watches_of v r) (readiness v now r) (waiters_at v.keys ws) (watch_at v.keys x)

-- it passes something on in event n and finds somebody
abbrev pub is_found : Seen → ℕ → Registrations → List Waiter → ℕ → Entry → Bool
is_found v now r ws n x = x.passes_in == n && finds_entry v now r ws x

-- the same of the registration under a key
abbrev pub finds_under : Seen → ℕ → Registrations → List Waiter → Option Entry → Bool
finds_under v now r ws None = false
finds_under v now r ws (Some x) = finds_entry v now r ws x

abbrev pub finds_key : Seen → ℕ → Registrations → List Waiter → ℕ → Bool
finds_key v now r ws k = finds_under v now r ws (entry_under r (record { 0 = k }))

-- with the key of this registration reached, if it passes something on in event n
abbrev pub with_candidate : ℕ → EntryId × Entry → Walk → Walk
with_candidate n p w = if p.1.passes_in == n then with_reached w p.0.0 else w

-- the keys of those that pass something on in event n
abbrev pub passing_keys : ℕ → List (EntryId × Entry) → List ℕ
passing_keys n ps = map (λ p. p.0.0) (filter (λ p. p.1.passes_in == n) ps)

-- among these keys each test finds what it finds among those of the exclusive registrations on a description that pass
-- something on in event n, in order of registration
abbrev pub AreCandidates : Registrations → DescId → ℕ → List ℕ → Type 0
AreCandidates r target n ks =
    (test : ℕ → Bool) → find test ks ≡ find test (passing_keys n (exclusive_of (with_ids r (filter (is_on target) r.entries))))

-- each of these keys is that of a registration
abbrev pub AreKeys : Registrations → List ℕ → Type 0
AreKeys r ks = (k : ℕ) → is_among ks k ≡ true → IsSome (entry_number r (record { 0 = k }))

-- a walk has room for the key of each exclusive registration
abbrev pub HasKeys : Registrations → Walk → Type 0
HasKeys r w = (id : EntryId) (x : Entry) → entry_under r id ≡ Some x → is_exclusive x ≡ true → id.0 < w.room

-- the number of the registration that is chosen at a description in event n
abbrev pub chosen_number : Seen → ℕ → Registrations → List Waiter → ℕ → DescId → Option ℕ
chosen_number v now r ws n target =
    let choice = choice_at v.files n (watches_of v r) (readiness v now r) (waiters_at v.keys ws) (number_of v target) in
    option_map (λ x. x.number) choice

-- each registration is of an instance
abbrev pub AreOfInstances : Seen → Registrations → Type 0
AreOfInstances v r = All (λ x. is_nested_key v x.instance ≡ true) r.entries

-- and the parts have such registrations
abbrev pub HaveInstances : Parts → Type 0
HaveInstances p = AreOfInstances p.tables p.interest
