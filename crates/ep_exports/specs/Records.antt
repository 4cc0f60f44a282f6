-- The history of the kernel behind a handle, which stays. `None` is an empty handle.
use Rattle.std.specs.Prelude.{◌≡◌, ◌≤◌, ◌<◌, ◌⊎◌, ◌^◌, IsSomeAnd, IsTrue, List, None, Option, Some, drop, length, slice_get, ℕ, ℤ}
use Rattle.ep_base.specs.declared.record.Record.{Record}
use Rattle.ep_flat.specs.Flat.{overlaid}
use Rattle.ep_history.specs.Records.{record_line}
use Rattle.ep_kernel.specs.ReadyBook.{ReadyBook, state_of}
use Rattle.ep_machine.specs.Run.{is_run}
use Rattle.ep_exports.specs.Events.{IsLaidOut, Room}
use Rattle.ep_exports.specs.Status.{fine, illegal, invalid, no_kernel, no_memory, no_number, no_room}

-- the records that were not taken out
abbrev pub here : ReadyBook → List Record
here kernel = drop (length kernel.book.taken) kernel.book.past

abbrev pub AskedRecords : Option ReadyBook → Option ReadyBook → ℕ → ℕ → ℤ → Type 0
AskedRecords None new before after result = (result ≡ no_kernel) × (new ≡ None) × (after ≡ before)
AskedRecords (Some kernel) new before after result =
    (result ≡ fine) × (new ≡ Some kernel) × (after ≡ length (here kernel))

-- the answer of a record, if there is one, was laid out at this moment
abbrev pub LaysOut : Option Record → ℕ → Room → Room → ℤ → Type 0
LaysOut None now before after result = (result ≡ invalid) × (after ≡ before)
LaysOut (Some entry) now before after result = (result ≡ fine) × IsLaidOut entry.answer now before after

abbrev pub Recorded : Option ReadyBook → ℕ → Option ReadyBook → Room → Room → ℤ → Type 0
Recorded None place new before after result = (result ≡ no_kernel) × (new ≡ None) × (after ≡ before)
Recorded (Some kernel) place new before after result = (new ≡ Some kernel)
    × LaysOut (slice_get (here kernel) place) (state_of kernel).now before after result

-- a line stands at the beginning of the room, or there is too little room and its size is told, or there was no memory
abbrev pub IsPrinted : List ℕ → List ℕ → ℕ → List ℕ → ℕ → ℤ → Type 0
IsPrinted line before size_before after size_after result =
    ((result ≡ fine) × (after ≡ overlaid before line) × (size_after ≡ length line) × (length line ≤ length before))
    ⊎ ((result ≡ no_room) × (after ≡ before) × (size_after ≡ length line) × (length before < length line))
    ⊎ ((result ≡ no_memory) × (after ≡ before) × (size_after ≡ size_before))

-- the line of a record, if there is one
abbrev pub Prints : Option Record → List ℕ → ℕ → List ℕ → ℕ → ℤ → Type 0
Prints None before size_before after size_after result = (result ≡ invalid) × (after ≡ before) × (size_after ≡ size_before)
Prints (Some entry) before size_before after size_after result =
    IsPrinted (record_line entry) before size_before after size_after result

abbrev pub Printed : Option ReadyBook → ℕ → Option ReadyBook → List ℕ → ℕ → List ℕ → ℕ → ℤ → Type 0
Printed None place new before size_before after size_after result =
    (result ≡ no_kernel) × (new ≡ None) × (after ≡ before) × (size_after ≡ size_before)
Printed (Some kernel) place new before size_before after size_after result = (new ≡ Some kernel)
    × Prints (slice_get (here kernel) place) before size_before after size_after result

-- fine exactly where the records that are here are a run of the machine, if there was memory to tell
abbrev pub Checked : Option ReadyBook → Option ReadyBook → ℤ → Type 0
Checked None new result = (result ≡ no_kernel) × (new ≡ None)
Checked (Some kernel) new result = (new ≡ Some kernel)
    × (((result ≡ fine) × IsTrue (is_run kernel.book.limits (here kernel)))
    ⊎ ((result ≡ illegal) × (IsTrue (is_run kernel.book.limits (here kernel)) → ⊥))
    ⊎ (result ≡ no_memory))

-- all records were taken out, and there is no less room for others
pub record Forgets (old new : ReadyBook) : Type 0 where
  pub limits : new.book.limits ≡ old.book.limits
  pub past : new.book.past ≡ old.book.past
  pub taken : new.book.taken ≡ old.book.past
  pub capacity : old.book.capacity ≤ new.book.capacity

abbrev pub Forgot : Option ReadyBook → Option ReadyBook → ℤ → Type 0
Forgot None new result = (result ≡ no_kernel) × (new ≡ None)
Forgot (Some old) new result = ((result ≡ fine) × (length old.book.past ≤ 2 ^ 62) × IsSomeAnd new (Forgets old))
    ⊎ ((result ≡ no_number) × (2 ^ 62 < length old.book.past) × (new ≡ Some old))
