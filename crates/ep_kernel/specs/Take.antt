-- What a wait leaves of the ready list of its instance.
use Rattle.std.specs.Prelude.{◌≡◌, ◌≢◌, ◌&&◌, ◌++◌, ◌==◌, Bool, List, None, Option, Some, drop, false, filter, not, take, ℕ}
use Rattle.ep_base.specs.declared.ids.EntryId.{EntryId}
use Rattle.ep_interest.specs.Registrations.{Registrations, entry_under}
use Rattle.ep_interest.specs.declared.entry.Entry.{Entry}
use Rattle.ep_machine.specs.Bits.{ET, has_bit}
use Rattle.ep_rings.specs.KeyWalk.{entry_id}
use Rattle.ep_ready.specs.ReadyLists.{Lists, instance_at, list_at}

-- one list has these keys now, and all else is what it was
pub record SetsList (old new : Lists) (instance : ℕ) (keys : List ℕ) : Type 0 where
  pub here : list_at new instance ≡ keys
  pub others : (i : ℕ) → i ≢ instance → list_at new i ≡ list_at old i
  pub places : (id : EntryId) → instance_at new id ≡ instance_at old id

-- what event n reported and may report again although nothing arrives
abbrev pub stays_found : ℕ → Option Entry → Bool
stays_found n None = false
stays_found n (Some x) = x.reported_in == n && x.armed && not (has_bit x.mask.0 ET)

abbrev pub key_stays : ℕ → Registrations → ℕ → Bool
key_stays n r k = stays_found n (entry_under r (entry_id k))

-- so many are taken from the front, and those that stay come behind
abbrev pub taken : (ℕ → Bool) → ℕ → List ℕ → List ℕ
taken stays walked keys = drop walked keys ++ filter stays (take walked keys)
