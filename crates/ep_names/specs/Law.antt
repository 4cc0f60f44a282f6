-- Which name the machine gives to what asks for any.
use Rattle.std.specs.Option.{MatchOption}
use Rattle.std.specs.Prelude.{Bool, None, false, true, ℕ, ◌<◌, ◌≡◌, ◌≤◌}
use Rattle.ep_base.specs.declared.socket.Name.{Name}
use Rattle.ep_base.specs.declared.socket.Space.{Space}
use Rattle.ep_machine.specs.Names.{given}
use Rattle.ep_names.specs.Names.{named}

-- each number of a space from 32,768 on that is below this one is taken
abbrev pub TakenBelow : (Name → Bool) → Space → ℕ → Type 0
TakenBelow taken space end = (k : ℕ) → 32768 ≤ k → k < end → taken (named space k) ≡ true

-- the name of the lowest number from 32,768 to 60,999 that isn't taken
pub record IsLowestFree (taken : Name → Bool) (space : Space) (name : Name) : Type 0 where
  pub in_space : name.space ≡ space
  pub from : 32768 ≤ name.number
  pub before : name.number < 61000
  pub free : taken name ≡ false
  pub lowest : TakenBelow taken space name.number

-- what is given is that name, and none is given exactly if each is taken
abbrev pub GivenIsLowest : Type 0
GivenIsLowest = (taken : Name → Bool) (space : Space)
    → MatchOption (given taken space) (TakenBelow taken space 61000) (IsLowestFree taken space)
    × (TakenBelow taken space 61000 → given taken space ≡ None)
