-- The records that a history keeps.
use Rattle.std.specs.Prelude.{All, length, map, min, vec_capacity, ◌-◌, ◌^◌, ◌≡◌, ◌≤◌}
use Rattle.ep_records.specs.Past.{Past}
use Rattle.ep_records.specs.Slot.{IsWithin, unpacked}
use Rattle.ep_records.specs.declared.history.History.TheInside.{Inside}

abbrev pub past_of : Inside → Past
past_of h = record {
  taken = h.taken.items;
  items = map (unpacked h.beside) h.slots.items;
  room = min (vec_capacity h.slots - length h.slots.items) h.beside.room;
}

-- each slot is a record, and what was taken out is counted, and so little that the next number is one
abbrev pub IsKept : Inside → Type 0
IsKept h = All (IsWithin h.beside) h.slots.items × (h.before ≡ length h.taken.items) × (h.before ≤ 2 ^ 62)
