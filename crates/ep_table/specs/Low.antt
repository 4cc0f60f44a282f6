-- A number below which none is free.
use Rattle.std.specs.Prelude.{List, Option, ℕ, ◌≤◌}
use Rattle.ep_machine.specs.Lists.{lowest_free}
use Rattle.ep_table.specs.declared.words.Descriptor.{Descriptor}

abbrev pub IsLow : ℕ → List (Option Descriptor) → Type 0
IsLow low slots = low ≤ lowest_free slots
