-- The registration under a key.
use Rattle.std.proofs.Common.{◌≡◌, Some}
use Rattle.ep_base.specs.declared.ids.EntryId.{EntryId}
use Rattle.ep_calls.proofs.EntryLemmas.{found_by, number_of}
use Rattle.ep_interest.specs.Registrations.{Registrations, entry_under, number_under, numbered}
use Rattle.ep_interest.specs.declared.entry.Entry.{Entry}

pub record IsUnder (r : Registrations) (id : EntryId) (x : Entry) : Type 0 where
  pub number : number_under r id ≡ Some x.number
  pub there : numbered r.entries x.number ≡ Some x

pub is_under : (r : Registrations) (id : EntryId) (x : Entry) → entry_under r id ≡ Some x → IsUnder r id x
is_under r id x h = record { number = number_of r id x h; there = found_by r id x h }
