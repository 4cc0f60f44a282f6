-- The tables of all processes, as lists.
use Rattle.std.specs.Prelude.{List, None, Option, Some, [], map, slice_index_or, slice_set, vec_capacity, vec_len, ℕ, ◌+◌, ◌≤◌}
use Rattle.ep_machine.specs.Lists.{enter, place_at}
use Rattle.ep_table.specs.Flagged.{kept}
use Rattle.ep_table.specs.declared.table.Table.{Table}
use Rattle.ep_table.specs.declared.words.Descriptor.{Descriptor}

-- a table, or nothing where the process has ended
abbrev pub Process : Type 0
Process = Option (List (Option Descriptor))

abbrev pub items_of : {A : Type 0} → Option (Table A) → Process
items_of None = None
items_of (Some t) = Some t.slots.items

abbrev pub lists : {A : Type 0} → List (Option (Table A)) → List Process
lists xs = map items_of xs

abbrev pub process_of : {A : Type 0} → List (Option (Table A)) → ℕ → Process
process_of xs p = items_of (slice_index_or xs p None)

abbrev pub slots_of : Process → List (Option Descriptor)
slots_of None = []
slots_of (Some t) = t

abbrev pub entered : Process → Descriptor → Process
entered None x = None
entered (Some t) x = Some (enter t x)

abbrev pub left : Process → ℕ → Process
left None i = None
left (Some t) i = Some (slice_set t i None)

abbrev pub put_at : Process → ℕ → Descriptor → Process
put_at None i x = None
put_at (Some t) i x = Some (place_at t i x)

abbrev pub kept_in : Process → Process
kept_in None = None
kept_in (Some t) = Some (map kept t)

-- the tables once that of a process is changed
abbrev pub change_at : {A : Type 0} → List (Option (Table A)) → ℕ → (Process → Process) → List Process
change_at xs p change = slice_set (lists xs) p (change (process_of xs p))

-- so many more numbers find room
abbrev pub HasRoom : {A : Type 0} → Option (Table A) → ℕ → Type 0
HasRoom None n = Unit {0}
HasRoom (Some t) n = vec_len t.slots + n ≤ vec_capacity t.slots
