-- What is told of the registrations of one instance.
use Rattle.std.specs.Prelude.{◌≡◌, ◌++◌, ◌==◌, ◌∷◌, [], Bool, Err, IsSome, List, None, Ok, Option, Result, Some, drop, filter, if◌then◌else◌, length, map, nat_lt, not, pos, take, ℕ, ℤ}
use Rattle.ep_base.specs.declared.errno.Errno.{Errno}
use Rattle.ep_base.specs.declared.errno.Errno.TheVariants.{Ebadf, Einval}
use Rattle.ep_base.specs.declared.ids.DescId.{DescId}
use Rattle.ep_calls.specs.Parts.{Parts}
use Rattle.ep_calls.specs.Readiness.{readiness}
use Rattle.ep_calls.specs.Stands.{watch_at}
use Rattle.ep_interest.specs.Registrations.{is_of}
use Rattle.ep_interest.specs.declared.entry.Entry.{Entry}
use Rattle.ep_kernel.specs.declared.watches.Watch.{Watch}
use Rattle.ep_machine.specs.Effect.{first}
use Rattle.ep_machine.specs.Files.{Files, names_nothing, object_of, object_under, side_of, under}
use Rattle.ep_machine.specs.Objects.{is_instance}
use Rattle.ep_machine.specs.Readiness.{is_reportable, present, present_of}
use Rattle.ep_machine.specs.State.{State, Watch as Registration}
use Rattle.ep_table.specs.Value.{Seen, number_under}
use Rattle.ep_view.specs.KernelView.{KernelWatch, shows}

-- In the machine.

-- an event, if its number is one
abbrev pub event_in : ℕ → Option ℕ
event_in n = if nat_lt 0 n then Some n else None

-- what is told of a registration: the bits are those that hold at its target, whether it asks for them or not
abbrev pub told : State → Registration → Watch
told s x = record {
  fd = record { 0 = pos x.fd };
  mask = record { 0 = x.mask };
  tag = x.tag;
  armed = x.armed;
  present = record { 0 = present s x.target };
  reportable = is_reportable s x;
  reported_in = event_in x.rep;
}

-- of each registration of an instance, in the order in which they were added
abbrev pub told_at : State → ℕ → List Watch
told_at s e = map (told s) (filter (λ x. x.instance == e) s.watches)

-- why a descriptor number of a process has none
abbrev pub refused_with : Files → ℕ → ℤ → Option Errno
refused_with files p fd = first ((names_nothing files p fd, Ebadf) ∷ (not (is_instance (object_under files p fd)), Einval) ∷ [])

-- as many as there is room for, from its beginning; the rest of the room stays
abbrev pub laid_over : List Watch → List Watch → List Watch
laid_over watches room = take (length room) watches ++ drop (length watches) room

-- how many there are, and they stand in the room; or the refusal, and the room stays
abbrev pub Tells : List Watch → Result ℕ Errno → List Watch → List Watch → Type 0
Tells watches result before after = (result ≡ Ok (length watches)) × (after ≡ laid_over watches before)

abbrev pub TellsNone : Errno → Result ℕ Errno → List Watch → List Watch → Type 0
TellsNone e result before after = (result ≡ Err e) × (after ≡ before)

-- Over the parts of a kernel.

-- a registration as it is kept, where `ready` says which instances are ready
abbrev pub told_view : (ℕ → Bool) → Files → ℕ → KernelWatch → Watch
told_view ready files now x = record {
  fd = record { 0 = pos x.fd };
  mask = record { 0 = x.mask };
  tag = x.tag;
  armed = x.armed;
  present = record { 0 = present_of ready x.target (object_of files x.target) (side_of files x.target) now };
  reportable = shows ready files now x;
  reported_in = event_in x.reported_in;
}

abbrev pub told_entry : (ℕ → Bool) → Seen → ℕ → Entry → Watch
told_entry ready tables now x = told_view ready tables.files now (watch_at tables.keys x)

abbrev pub told_entries : Parts → DescId → List Watch
told_entries p instance =
    map (told_entry (readiness p.tables p.clock p.interest) p.tables p.clock) (filter (is_of instance) p.interest.entries)

-- the instance under a key is what a descriptor number of a process names
pub record IsNamed (tables : Seen) (p : ℕ) (fd : ℤ) (desc : DescId) : Type 0 where
  pub accepted : refused_with tables.files p fd ≡ None
  pub named : number_under tables desc ≡ under tables.files p fd
  pub lives : IsSome (number_under tables desc)
