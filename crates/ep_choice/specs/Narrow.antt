-- Narrowing: which walk has the targets of the exclusive registrations that pass something on.
use Rattle.std.specs.Prelude.{List, None, Option, Some, if◌then◌else◌, map, nat_lt, true, ℕ, ◌<◌, ◌≡◌}
use Rattle.ep_base.specs.declared.ids.DescId.{DescId}
use Rattle.ep_base.specs.declared.ids.EntryId.{EntryId}
use Rattle.ep_interest.specs.Exclusive.{is_exclusive, kept_passing}
use Rattle.ep_interest.specs.Registrations.{Registrations, entry_under}
use Rattle.ep_interest.specs.declared.entry.Entry.{Entry}
use Rattle.ep_machine.specs.Lists.{is_among}
use Rattle.ep_walk.specs.Walk.{Walk, with_reached}
use Rattle.ep_table.specs.Value.{Seen}

-- a walk has room for the target of each exclusive registration
abbrev pub HasTargets : Registrations → Walk → Type 0
HasTargets r w = (id : EntryId) (x : Entry) → entry_under r id ≡ Some x → is_exclusive x ≡ true → x.desc.0 < w.room

-- the target of an exclusive registration
abbrev pub exclusive_target : Option Entry → Option DescId
exclusive_target None = None
exclusive_target (Some x) = if is_exclusive x then Some x.desc else None

-- with this target reached, if there is one
abbrev pub with_target : Option DescId → Walk → Walk
with_target None w = w
with_target (Some d) w = with_reached w d.0

-- each of these keys is that of the target of a registration
abbrev pub AreTargets : Registrations → List ℕ → Type 0
AreTargets r ks = (k : ℕ) → is_among ks k ≡ true → (id : EntryId) × (x : Entry) × (entry_under r id ≡ Some x) × (x.desc.0 ≡ k)

-- and each exclusive registration that passes something on has its target among them
abbrev pub HaveTargets : Registrations → List ℕ → Type 0
HaveTargets r ks = (id : EntryId) (x : Entry) → entry_under r id ≡ Some x → is_exclusive x ≡ true → nat_lt 0 x.passes_in ≡ true
    → is_among ks x.desc.0 ≡ true

-- what is known of registrations doesn't see what they pass on
abbrev pub Lasts : {T : Type 0} → (T → Seen → ℕ → Registrations → Type 0) → Type 0
Lasts {T} knows = (t : T) (v : Seen) (now : ℕ) (old new : Registrations) (target : DescId) (chosen : Option ℕ)
    → new.entries ≡ map (kept_passing target chosen) old.entries → new.keys ≡ old.keys → new.added ≡ old.added → new.next ≡ old.next
    → knows t v now old → knows t v now new
