-- What an auditor keeps of the records that it was told.
use Rattle.std.specs.Prelude.{◌≡◌, ◌<◌, ◌≤◌, ◌⊎◌, ◌-◌, List, Option, length, slice_get}
use Rattle.ep_base.specs.declared.record.Record.{Record}
use Rattle.ep_calls.specs.Book.{Book}
use Rattle.ep_records.specs.Past.{Past}

-- the last of these records, if there is one
abbrev pub last_of : List Record → Option Record
last_of records = slice_get records (length records - 1)

-- if all records of the kernel were taken out, this history has the last of them
abbrev pub KeepsLast : Book → Past → Type 0
KeepsLast kernel out =
    (length kernel.taken ≤ length kernel.past)
    × (length kernel.past ≤ length kernel.taken → last_of out.items ≡ last_of kernel.past)

-- they stayed, or became more
abbrev pub StaysOrGrows : List Record → List Record → Type 0
StaysOrGrows past now = (now ≡ past) ⊎ (length past < length now)
