-- How often tables name descriptions.
use Rattle.std.specs.Prelude.{List, Option, Some, length, ℕ, ◌+◌, ◌≡◌}
use Rattle.ep_machine.specs.Deaths.{named_in}
use Rattle.ep_table.specs.Value.{Things, count_at, times}
use Rattle.ep_table.specs.View.{table_in}
use Rattle.ep_table.specs.declared.words.Descriptor.{Descriptor}

-- the numbers of what descriptors name
abbrev pub numbers : List (Option ℕ) → List (Option Descriptor) → List ℕ
numbers keys t = named_in (table_in keys (Some t))

-- each of these is named once more for each time that it stands there
pub record Raises (old new : Things) (ns : List ℕ) : Type 0 where
  pub same : new ≡ record old { names = new.names; named = new.named }
  pub names : (d : ℕ) → count_at new.names d ≡ count_at old.names d + times d ns
  pub named : new.named ≡ old.named + length ns

-- and once less
pub record Lowers (old new : Things) (ns : List ℕ) : Type 0 where
  pub same : new ≡ record old { names = new.names; dying = new.dying }
  pub names : (d : ℕ) → count_at new.names d + times d ns ≡ count_at old.names d
