-- The text of a kernel's limits.
use Rattle.std.specs.Prelude.{List, [], map, ℕ, ◌≡◌, ◌∷◌}
use Rattle.std.specs.List.{AllByRecursion, join_with_byte}
use Rattle.std.specs.Str.Parse.{IsNumeral, digits_value}
use Rattle.ep_base.specs.Limits.{AreInRange, Limits}

-- the text is one run of decimal digits for each number, with a comma (44) between each two
pub record Writes (text numbers : List ℕ) : Type 0 where
  pub runs : List (List ℕ)
  pub joined : text ≡ join_with_byte 44 runs
  pub digits : AllByRecursion (IsNumeral 10) runs
  pub values : map (digits_value 10) runs ≡ numbers

-- in the order of a text
abbrev pub numbers_of : Limits → List ℕ
numbers_of limits = limits.descriptors ∷ limits.files ∷ limits.processes ∷ limits.watches ∷ limits.pipe_bytes ∷ limits.sock_bytes ∷ []

-- the text writes the six numbers, and each is in its range
pub record IsLimitsText (text : List ℕ) (limits : Limits) : Type 0 where
  pub written : Writes text (numbers_of limits)
  pub in_range : AreInRange limits
