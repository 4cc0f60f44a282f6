-- The numbers of what a record reports.
use Rattle.std.specs.Prelude.{List, ℕ}
use Rattle.ep_records.specs.declared.numbers.Held.{Held}
use Rattle.ep_records.specs.declared.numbers.Held.TheVariants as ways

abbrev pub held_numbers : Held → List ℕ
held_numbers (ways.Alone one) = one
held_numbers (ways.Beside many) = many.now
