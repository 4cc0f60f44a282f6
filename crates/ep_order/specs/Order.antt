-- The order of one list of registrations, by their numbers.
use Rattle.std.specs.Prelude.{◌≡◌, ◌≤◌, ◌++◌, ◌∷◌, ◌⊎◌, Bool, List, [], false, filter, true, take, ℕ}
use Rattle.ep_law.specs.Laws.{Member}
use Rattle.ep_machine.specs.Lists.{is_among}

-- which are reportable, in which event each was last reported, and since which event it is reportable
pub record Turns : Type 0 where
  pub ready : ℕ → Bool
  pub rep : ℕ → ℕ
  pub from : ℕ → ℕ

-- whoever stands before a reportable one was not reported since that one came to be reportable
abbrev pub IsFairOrder : Turns → List ℕ → Type 0
IsFairOrder t [] = Unit {0}
IsFairOrder t (x ∷ xs) = ((y : ℕ) → Member y xs → t.ready y ≡ true → t.rep x ≤ t.from y) × IsFairOrder t xs

-- of one that stays where it stood: it is not reported in event n (or is gone), and came to be reportable in n if it
-- did
pub record Stays (n : ℕ) (s t : Turns) (k : ℕ) : Type 0 where
  pub rep : t.rep k ≤ s.rep k
  pub from : t.ready k ≡ true → ((s.ready k ≡ true) × (t.from k ≡ s.from k)) ⊎ (t.from k ≡ n)

-- what passes the test stays in its order, and others come behind
pub record Reorders (n : ℕ) (s t : Turns) (keeps : ℕ → Bool) (old more : List ℕ) : Type 0 where
  pub stay : (k : ℕ) → Member k old → keeps k ≡ true → Stays n s t k
  pub come : (k : ℕ) → Member k more → t.ready k ≡ true → t.from k ≡ n
  pub past : (k : ℕ) → t.rep k ≤ n

-- a list stays in a fair order
abbrev pub StaysFair : Type 0
StaysFair = (n : ℕ) (s t : Turns) (keeps : ℕ → Bool) (old more : List ℕ)
    → IsFairOrder s old → Reorders n s t keeps old more → IsFairOrder t (filter keeps old ++ more)

-- each reportable one is on the list
abbrev pub IsComplete : Turns → List ℕ → Type 0
IsComplete t order = (k : ℕ) → t.ready k ≡ true → is_among order k ≡ true

-- a reportable one was so before and stays, or comes
abbrev pub StaysComplete : Type 0
StaysComplete = (s t : Turns) (keeps : ℕ → Bool) (old more : List ℕ)
    → IsComplete s old
    → ((k : ℕ) → t.ready k ≡ true → ((s.ready k ≡ true) × (keeps k ≡ true)) ⊎ (is_among more k ≡ true))
    → IsComplete t (filter keeps old ++ more)

-- the first reportable ones were not reported since any other came to be reportable
abbrev pub FirstAreFair : Type 0
FirstAreFair = (t : Turns) (most : ℕ) (order : List ℕ)
    → IsFairOrder t order → IsComplete t order
    → (x y : ℕ) → Member x (take most (filter t.ready order)) → t.ready y ≡ true
    → is_among (take most (filter t.ready order)) y ≡ false → t.rep x ≤ t.from y
