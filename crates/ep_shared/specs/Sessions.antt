-- What callers see of sessions.
use Rattle.std.specs.Prelude.{◌≡◌, ℕ, ◌<◌, ◌==◌, Bool, false, true, List, [], ◌∷◌, cond, Option, Some, None}
use Rattle.std.specs.List.{list_any}
use Rattle.std.specs.declared.sync.ledger.Ledger as Ledger
use Rattle.ep_base.specs.declared.record.Record.{Record}
use Rattle.ep_shared.specs.Parts.{IsBetween, part}
use Rattle.ep_shared.specs.declared.book.Session.{Session}

abbrev pub caller_of : {L : Type 0} {g : Ledger.Ghosts L} → Session L g → ℕ
caller_of s = s.name.number

abbrev pub records_of : {L : Type 0} {g : Ledger.Ghosts L} → Session L g → List Record
records_of s = s.records.items

abbrev pub has_session : {L : Type 0} {g : Ledger.Ghosts L} → List (Session L g) → ℕ → Bool
has_session ss c = list_any (λ s. s.name.number == c) ss

-- the records of the first session of a caller, and none where it has no session
abbrev pub held : {L : Type 0} {g : Ledger.Ghosts L} → ℕ → List (Session L g) → List Record
held c [] = []
held c (s ∷ ss) = cond (s.name.number == c) s.records.items (held c ss)

-- the caller's part of the history is what its session has
abbrev pub IsSame : {L : Type 0} {g : Ledger.Ghosts L} → List Record → List (Session L g) → ℕ → Type 0
IsSame h ss c = part c h ≡ held c ss

-- each caller from 1 to n has a session
abbrev pub AreThere : {L : Type 0} {g : Ledger.Ghosts L} → ℕ → List (Session L g) → Type 0
AreThere n ss = (c : ℕ) → IsBetween n c → has_session ss c ≡ true

-- the least caller from 1 to n that has none
pub record IsMissing {L : Type 0} {g : Ledger.Ghosts L} (n : ℕ) (ss : List (Session L g)) (c : ℕ) : Type 0 where
  pub between : IsBetween n c
  pub none : has_session ss c ≡ false
  pub least : (d : ℕ) → 0 < d → d < c → has_session ss d ≡ true

-- d is less than the least, if there is one
abbrev pub IsBelow : Option ℕ → ℕ → Type 0
IsBelow None d = Unit {0}
IsBelow (Some b) d = d < b
