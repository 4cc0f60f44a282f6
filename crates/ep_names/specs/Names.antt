-- Names that are taken, each with its owner.
use Rattle.std.specs.Option.{is_some}
use Rattle.std.specs.Prelude.{Bool, List, Option, [], ℕ}
use Rattle.ep_base.specs.declared.socket.Name.{Name}
use Rattle.ep_base.specs.declared.socket.Space.{Space}
use Rattle.ep_base.specs.declared.socket.Space.TheVariants as spaces
use Rattle.ep_names.specs.Numbers.{owner_at}

-- the numbers that are taken with their owners, space by space; their order says nothing
pub record Taken : Type 0 where
  pub v4 : List (ℕ × ℕ)
  pub v6 : List (ℕ × ℕ)
  pub local : List (ℕ × ℕ)

abbrev pub no_names : Taken
no_names = record { v4 = []; v6 = []; local = [] }

abbrev pub numbers_in : Taken → Space → List (ℕ × ℕ)
numbers_in t spaces.V4 = t.v4
numbers_in t spaces.V6 = t.v6
numbers_in t spaces.Local = t.local

-- who has a name
abbrev pub owner_of : Taken → Name → Option ℕ
owner_of t name = owner_at (numbers_in t name.space) name.number

-- is this name taken?
abbrev pub holds : Taken → Name → Bool
holds t name = is_some (owner_of t name)

abbrev pub named : Space → ℕ → Name
named space number = record { space = space; number = number }
