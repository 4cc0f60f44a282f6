-- How a book is closed.
use Rattle.std.specs.Prelude.{◌≡◌, ℕ, ◌<◌, List, MatchResult, Result}
use Rattle.std.specs.declared.sync.ledger.Ledger as Ledger
use Rattle.ep_base.specs.Limits.{Limits}
use Rattle.ep_base.specs.declared.record.Record.{Record}
use Rattle.ep_shared.specs.Sessions.{AreThere, IsMissing, IsSame}
use Rattle.ep_shared.specs.declared.book.Session.{Session}
use Rattle.ep_shared.specs.declared.book.close.FinishFault.{FinishFault}
use Rattle.ep_shared.specs.declared.book.close.FinishFault.TheVariants.{Limits as OtherLimits, Memory, Mismatch, Missing}
use Rattle.ep_shared.specs.declared.book.close.History.{History}

-- the least caller whose part differs
pub record Differs {L : Type 0} {g : Ledger.Ghosts L} (past : List Record) (ss : List (Session L g)) (c : ℕ) : Type 0 where
  pub differs : IsSame past ss c → ⊥
  pub least : (d : ℕ) → d < c → IsSame past ss d

-- all is as it should be
pub record AreAlike {L : Type 0} {g : Ledger.Ghosts L} (n : ℕ) (limits bounds : Limits) (past : List Record) (ss : List (Session L g)) : Type 0 where
  pub there : AreThere n ss
  pub made_with : bounds ≡ limits
  pub same : (c : ℕ) → IsSame past ss c

-- and this is the history
pub record IsHistory {L : Type 0} {g : Ledger.Ghosts L} (n : ℕ) (limits bounds : Limits) (past : List Record) (ss : List (Session L g)) (h : History) : Type 0 where
  pub alike : AreAlike n limits bounds past ss
  pub made_with : h.limits ≡ limits
  pub records : h.records.items ≡ past

-- the first thing that is not as it should be
abbrev pub IsFault : {L : Type 0} {g : Ledger.Ghosts L} → ℕ → Limits → Limits → List Record → List (Session L g) → FinishFault → Type 0
IsFault n limits bounds past ss (Missing c) = IsMissing n ss c.0
IsFault n limits bounds past ss OtherLimits = AreThere n ss × (bounds ≡ limits → ⊥)
IsFault n limits bounds past ss (Mismatch c) = AreThere n ss × (bounds ≡ limits) × Differs past ss c.0
IsFault n limits bounds past ss Memory = AreAlike n limits bounds past ss

-- the history of a kernel with these limits, or the first fault: of a kernel that is there, with a history
pub record Finishes {L : Type 0} {g : Ledger.Ghosts L} (n : ℕ) (limits : Limits) (ss : List (Session L g)) (result : Result History FinishFault) : Type 0 where
  pub bounds : Limits
  pub past : List Record
  pub closes : MatchResult result (IsHistory n limits bounds past ss) (IsFault n limits bounds past ss)
