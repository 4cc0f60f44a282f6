-- Which registrations an event may have made reportable, and which it may have ended.
use Rattle.std.specs.Prelude.{◌==◌, ◌&&◌, ◌||◌, Bool, List, None, Option, Some, false, if◌then◌else◌, not, ℕ}
use Rattle.ep_base.specs.declared.ids.DescId.{DescId}
use Rattle.ep_base.specs.declared.ids.EntryId.{EntryId}
use Rattle.ep_dates.specs.declared.touched.Touched.{Touched as Touch}
use Rattle.ep_dates.specs.Ask.{watches}
use Rattle.ep_interest.specs.Passes.{passes_on}
use Rattle.ep_interest.specs.Registrations.{Registrations, entry_under}
use Rattle.ep_interest.specs.declared.entry.Entry.{Entry}
use Rattle.ep_machine.specs.Lists.{is_among}
use Rattle.ep_rings.specs.KeyWalk.{entry_id as key_of}

-- What an event touched: the registration that it added or modified, the instances that IN reached, the numbers of the
-- registrations that it reported, the description on whose object it was a call, and the instances that lost a
-- registration that was reportable.
pub record Touched : Type 0 where
  pub altered : Option EntryId
  pub reached : List ℕ
  pub reported : List ℕ
  pub called : Option DescId
  pub gone : List ℕ

abbrev pub touched_of : Touch → Touched
touched_of t = record { altered = t.altered; reached = t.reached.now.reached; reported = t.reported.now; called = t.called; gone = t.gone.now.reached }

abbrev pub is_it : Option EntryId → ℕ → Bool
is_it None k = false
is_it (Some id) k = k == id.0

abbrev pub is_on_any : List ℕ → Option Entry → Bool
is_on_any descs None = false
is_on_any descs (Some x) = is_among descs x.desc.0

-- the registration under a key is on one of these
abbrev pub watches_any : Registrations → List ℕ → ℕ → Bool
watches_any r descs k = is_on_any descs (entry_under r (key_of k))

abbrev pub is_fresh_on : List ℕ → List ℕ → Option Entry → Bool
is_fresh_on noted descs None = false
is_fresh_on noted descs (Some x) = is_among descs x.desc.0 && not (is_among noted x.desc.0)

-- or on one of these that isn't noted
abbrev pub watches_fresh : Registrations → List ℕ → List ℕ → ℕ → Bool
watches_fresh r noted descs k = is_fresh_on noted descs (entry_under r (key_of k))

abbrev pub watches_maybe : Registrations → Option DescId → ℕ → Bool
watches_maybe r None k = false
watches_maybe r (Some desc) k = watches r desc.0 k

abbrev pub is_numbered : List ℕ → Option Entry → Bool
is_numbered numbers None = false
is_numbered numbers (Some x) = is_among numbers x.number

-- the registration under a key has one of these numbers
abbrev pub has_number : Registrations → List ℕ → ℕ → Bool
has_number r numbers k = is_numbered numbers (entry_under r (key_of k))

-- the registrations that may have come to be reportable
abbrev pub may_come : Registrations → Touched → ℕ → Bool
may_come r t k = is_it t.altered k || passes_on (entry_under r (key_of k)) || watches_any r t.reached k

-- and those that may be so no more
abbrev pub may_go : Registrations → Touched → ℕ → Bool
may_go r t k = is_it t.altered k || has_number r t.reported k || watches_maybe r t.called k || watches_any r t.gone k

-- what event n leaves of the event since which a registration is reportable
abbrev pub date_of : ℕ → Bool → ℕ → ℕ → ℕ
date_of n shows rep earlier = if not shows then 0 else if earlier == 0 || rep == n then n else earlier
