-- What registrations show over the parts of a kernel.
use Rattle.std.specs.Prelude.{Bool, List, map, ℕ}
use Rattle.ep_interest.specs.Registrations.{Registrations}
use Rattle.ep_interest.specs.declared.entry.Entry.{Entry}
use Rattle.ep_view.specs.KernelView.{KernelWatch, ready_now, shown_at, shows}
use Rattle.ep_calls.specs.Stands.{watch_at}
use Rattle.ep_base.specs.declared.ids.DescId.{DescId}
use Rattle.ep_machine.specs.Files.{object_of, side_of}
use Rattle.ep_machine.specs.Readiness.{present_of}
use Rattle.ep_table.specs.Value.{Seen, number_of}

-- the registrations as the machine has them
abbrev pub watches_of : Seen → Registrations → List KernelWatch
watches_of tables interest = map (watch_at tables.keys) interest.entries

-- the instances that are ready, by number
abbrev pub readiness : Seen → ℕ → Registrations → ℕ → Bool
readiness tables now interest = ready_now tables.files now (watches_of tables interest)

-- where `ready` says so: the bits that a registration shows, and whether it is reportable
abbrev pub entry_bits : (ℕ → Bool) → Seen → ℕ → Entry → ℕ
entry_bits ready tables now x = shown_at ready tables.files now (watch_at tables.keys x)

abbrev pub entry_shows : (ℕ → Bool) → Seen → ℕ → Entry → Bool
entry_shows ready tables now x = shows ready tables.files now (watch_at tables.keys x)

-- where an instance that it watches is ready, or is not
abbrev pub shown_over : Bool → Seen → ℕ → Entry → ℕ
shown_over below tables now x = entry_bits (λ d. below) tables now x

-- the bits that hold at a description, where `below` says whether it is an instance that is ready
abbrev pub present_over : Bool → Seen → ℕ → DescId → ℕ
present_over below tables now desc =
    let d = number_of tables desc in
    present_of (λ e. below) d (object_of tables.files d) (side_of tables.files d) now
