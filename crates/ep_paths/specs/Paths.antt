-- Runs that make choices, one run after another, and what it is that they are all.
use Rattle.std.specs.Prelude.{◌≡◌, ◌+◌, ◌++◌, ◌-◌, ◌<◌, ◌≤◌, ◌∷◌, [], List, Contains, AllPairs, length, take, ℕ}
use Rattle.std.specs.List.{AllByRecursion}
use Rattle.ep_paths.specs.declared.choice.Choice.{Choice}

-- ---- a choice

-- no way is left behind that one
abbrev pub IsLast : Choice → Type 0
IsLast c = c.ways ≤ c.way + 1

abbrev pub IsFirst : Choice → Type 0
IsFirst c = c.way ≡ 0

-- the same choice, one way further
pub record IsNextWay (c d : Choice) : Type 0 where
  pub way : d.way ≡ c.way + 1
  pub ways : d.ways ≡ c.ways

-- ---- from one run to the next

-- behind one choice, which goes one way further, all went their last way, and are gone
pub record GoesOn (before after : List Choice) : Type 0 where
  pub kept : List Choice
  pub from : Choice
  pub to : Choice
  pub gone : List Choice
  pub was : before ≡ kept ++ from ∷ gone
  pub is : after ≡ kept ++ to ∷ []
  pub next : IsNextWay from to
  pub last : AllByRecursion IsLast gone

-- a run by these choices: further ones go their first way, and all choices but the last one gave what they had given
pub record Comes {A : Type 0} (path : List Choice) (given : List A) (whole : List Choice) (gives : List A) : Type 0 where
  pub more : List Choice
  pub behind : whole ≡ path ++ more
  pub first : AllByRecursion IsFirst more
  pub same : take (length path - 1) gives ≡ take (length path - 1) given
  pub each : length gives ≡ length whole

-- ---- runs, and all of them

-- a choice, and what it gave
abbrev pub Taken : Type 0 → Type 0
Taken A = Choice × A

-- the same up to a choice, in which the later one goes a later way
pub record IsBefore {A : Type 0} (xs ys : List (Taken A)) : Type 0 where
  pub shared : List (Taken A)
  pub x : Taken A
  pub y : Taken A
  pub behind_x : List (Taken A)
  pub behind_y : List (Taken A)
  pub xs_is : xs ≡ shared ++ x ∷ behind_x
  pub ys_is : ys ≡ shared ++ y ∷ behind_y
  pub ways : y.0.ways ≡ x.0.ways
  pub later : x.0.way < y.0.way

-- one of the runs goes this way, of so many, behind these choices
pub record Goes {A : Type 0} (runs : List (List (Taken A))) (before : List (Taken A)) (way ways : ℕ) : Type 0 where
  pub taken : Taken A
  pub behind : List (Taken A)
  pub run : Contains runs (before ++ taken ∷ behind)
  pub way_is : taken.0.way ≡ way
  pub ways_is : taken.0.ways ≡ ways

-- Every run, each once: wherever one of them had a choice, each way of it was gone. Any two are the same up to a
-- choice, and then go two of its ways.
pub record IsEveryRun {A : Type 0} (runs : List (List (Taken A))) : Type 0 where
  pub some : (xs : List (Taken A)) × Contains runs xs
  pub once : AllPairs IsBefore runs
  pub all : (before : List (Taken A)) (taken : Taken A) (behind : List (Taken A)) → Contains runs (before ++ taken ∷ behind)
      → (way : ℕ) → way < taken.0.ways → Goes runs before way taken.0.ways

-- these runs, one after another, lead from s to t
abbrev pub Follows : {S X : Type 0} → (S → X → S → Type 0) → S → List X → S → Type 0
Follows told s [] t = s ≡ t
Follows {S} told s (x ∷ xs) t = (u : S) × told s x u × Follows told u xs t
