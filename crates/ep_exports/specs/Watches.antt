-- The registrations of an instance of the kernel behind a handle, which stays. `None` is an empty handle.
use Rattle.std.specs.Prelude.{◌≡◌, ◌⊎◌, Bool, Err, List, MatchOption, None, Ok, Option, Result, Some, if◌then◌else◌, length, map, option_map, take, unwrap_or, ℕ, ℤ}
use Rattle.ep_base.specs.Errno.{errno_number}
use Rattle.ep_base.specs.declared.errno.Errno.{Errno}
use Rattle.ep_base.specs.declared.errno.Errno.TheVariants.{Einval}
use Rattle.ep_exports.specs.Records.{here}
use Rattle.ep_exports.specs.Status.{fine, no_kernel, no_memory}
use Rattle.ep_flat.specs.Flat.{overlaid, refused}
use Rattle.ep_flat.specs.declared.flat.FlatWatch.{FlatWatch}
use Rattle.ep_kernel.specs.ReadyBook.{ReadyBook, state_of}
use Rattle.ep_kernel.specs.Watches.{refused_with, told_at}
use Rattle.ep_kernel.specs.declared.watches.Watch.{Watch}
use Rattle.ep_machine.specs.Files.{named_by}
use Rattle.ep_machine.specs.Waits.{waiter_of}
use Rattle.ep_records.specs.Past.{Past, numbered}

-- the room for what is told, and the number beside it
pub record WatchRoom : Type 0 where
  pub watches : List FlatWatch
  pub count : ℕ

-- the records of a kernel
abbrev pub past_of : ReadyBook → Past
past_of kernel = record { taken = kernel.book.taken; items = here kernel; room = 0 }

-- the caller of an event, if its record is here
abbrev pub reporter : Past → ℕ → ℕ
reporter past event = unwrap_or (option_map (λ r. r.caller.0) (numbered past event)) 0

abbrev pub flag_of : Bool → ℕ
flag_of holds = if holds then 1 else 0

-- what is told of a registration, as C has it
abbrev pub flat_watch : Past → Watch → FlatWatch
flat_watch past x = record {
  tag = x.tag;
  reported_in = unwrap_or x.reported_in 0;
  reported_to = unwrap_or (option_map (reporter past) x.reported_in) 0;
  fd = x.fd.0;
  mask = x.mask.0;
  shown = x.present.0;
  is_armed = flag_of x.armed;
  is_reportable = flag_of x.reportable;
}

-- all are told as far as the room reaches, and how many they are
abbrev pub Stands : Past → List Watch → WatchRoom → WatchRoom → ℤ → Type 0
Stands past watches before after result = (result ≡ fine) × (after.count ≡ length watches)
    × (after.watches ≡ overlaid before.watches (map (flat_watch past) watches))

abbrev pub IsRefused : Errno → WatchRoom → WatchRoom → ℤ → Type 0
IsRefused e before after result = (result ≡ refused (errno_number e)) × (after ≡ before)

-- an answer is laid out: so many of those that were told, or the refusal
abbrev pub IsTold : Past → Result ℕ Errno → List Watch → WatchRoom → WatchRoom → ℤ → Type 0
IsTold past (Err e) told before after result = IsRefused e before after result
IsTold past (Ok count) told before after result = (result ≡ fine) × (after.count ≡ count)
    × (after.watches ≡ overlaid before.watches (map (flat_watch past) (take count told)))

-- nothing is told if memory for it is refused
abbrev pub OrNoMemory : Type 0 → WatchRoom → WatchRoom → ℤ → Type 0
OrNoMemory holds before after result = ((result ≡ no_memory) × (after ≡ before)) ⊎ holds

-- a kernel tells the registrations of the instance that a descriptor number names
abbrev pub TellsNamed : ReadyBook → ℕ → ℤ → WatchRoom → WatchRoom → ℤ → Type 0
TellsNamed kernel p fd before after result = let s = state_of kernel in
    MatchOption (refused_with s.files p fd)
    (Stands (past_of kernel) (told_at s (named_by s.files p fd)) before after result)
    (λ e. IsRefused e before after result)

-- a kernel tells those of the instance at which a caller is parked
abbrev pub TellsAwaited : ReadyBook → ℕ → WatchRoom → WatchRoom → ℤ → Type 0
TellsAwaited kernel caller before after result = let s = state_of kernel in
    MatchOption (waiter_of s caller)
    (IsRefused Einval before after result)
    (λ w. Stands (past_of kernel) (told_at s w.instance) before after result)

abbrev pub AskedNamed : Option ReadyBook → ℕ → ℤ → Option ReadyBook → WatchRoom → WatchRoom → ℤ → Type 0
AskedNamed None p fd new before after result = (result ≡ no_kernel) × (new ≡ None) × (after ≡ before)
AskedNamed (Some kernel) p fd new before after result =
    (new ≡ Some kernel) × OrNoMemory (TellsNamed kernel p fd before after result) before after result

abbrev pub AskedAwaited : Option ReadyBook → ℕ → Option ReadyBook → WatchRoom → WatchRoom → ℤ → Type 0
AskedAwaited None caller new before after result = (result ≡ no_kernel) × (new ≡ None) × (after ≡ before)
AskedAwaited (Some kernel) caller new before after result =
    (new ≡ Some kernel) × OrNoMemory (TellsAwaited kernel caller before after result) before after result
