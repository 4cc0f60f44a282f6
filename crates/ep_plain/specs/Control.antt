-- The registration that an epoll_ctl is about, and its date where it is deleted.
use Rattle.std.specs.Option.{option_map}
use Rattle.std.specs.Prelude.{◌≡◌, None, Option, Some, if◌then◌else◌}
use Rattle.ep_base.specs.declared.ids.EntryId.{EntryId}
use Rattle.ep_calls.specs.declared.control.Operation.{Operation}
use Rattle.ep_calls.specs.declared.control.Operation.TheVariants.{Delete}
use Rattle.ep_dates.specs.Dates.{Dates, HasPlace, ended, is_dated}
use Rattle.ep_interest.specs.Registrations.{Registrations, entry_under}
use Rattle.ep_interest.specs.declared.entry.Entry.{Entry}
use Rattle.ep_machine.specs.Lists.{is_among}
use Rattle.ep_rings.specs.PlacedRows.{keys_at}

-- the key of the registration that is there, or of the one that is added next
abbrev pub key_of : Registrations → Option EntryId → EntryId
key_of r None = record { 0 = r.next }
key_of r (Some id) = id

-- the registration that a DEL is about, with its key
abbrev pub deleted_in : Operation → Option EntryId → Registrations → Option (EntryId × Entry)
deleted_in Delete (Some id) r = option_map (λ x. (id, x)) (entry_under r id)
deleted_in operation found r = None

-- it has a place, and its key stands in the row of its instance exactly if it has a date
pub record IsInRow (d : Dates) (id : EntryId) (x : Entry) : Type 0 where
  pub place : HasPlace d id x
  pub listed : is_among (keys_at d.rows x.instance.0) id.0 ≡ is_dated d x

-- without its date, if it had one
abbrev pub without_deleted : Option (EntryId × Entry) → Dates → Dates
without_deleted None d = d
without_deleted (Some w) d = if is_dated d w.1 then ended w.0 w.1 d else d
