use Rattle.std.proofs.Common.{◌≡◌, ℕ, ◌<◌, ◌≤◌, true}
use Rattle.std.specs.Prelude.{◌==◌}
use Rattle.std.specs.List.{list_any}
use Rattle.ep_shared.proofs.book.handed.first_missing.Given as goal

abbrev pub invariant-loop-before : goal.invariant-loop-before
invariant-loop-before g l = (c : ℕ) → 0 < c → c ≤ l.before → list_any (λ s. s.name.number == c) l.handed ≡ true
