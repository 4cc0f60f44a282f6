-- An object of values that need no memory.
use Rattle.std.specs.Prelude.{ℕ}

-- how deep the values of an object may nest
abbrev pub flat_depth : ℕ
flat_depth = 126
