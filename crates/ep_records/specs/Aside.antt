-- The lists beside the slots, as a value.
use Rattle.std.specs.Prelude.{length, vec_capacity, ◌-◌}
use Rattle.ep_records.specs.Lists.{Lists}
use Rattle.ep_records.specs.declared.beside.Beside.TheInside.{Inside}

abbrev pub lists_of : Inside → Lists
lists_of b = record {
  long = b.long.items;
  reports = b.reports.items;
  numbers = b.numbers.items;
  bytes = b.bytes.items;
  room = vec_capacity b.long - length b.long.items;
}
