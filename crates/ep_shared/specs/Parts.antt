-- The part of a history that is one caller's.
use Rattle.std.specs.Prelude.{ℕ, ◌<◌, ◌≤◌, ◌==◌, List, filter}
use Rattle.ep_base.specs.declared.record.Record.{Record}

abbrev pub part : ℕ → List Record → List Record
part c h = filter (λ r. r.caller.0 == c) h

-- a caller's number, of n
abbrev pub IsBetween : ℕ → ℕ → Type 0
IsBetween n c = (0 < c) × (c ≤ n)
