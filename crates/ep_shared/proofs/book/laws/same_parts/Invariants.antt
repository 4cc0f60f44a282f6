use Rattle.std.proofs.Common.{◌≡◌, ℕ, take, true}
use Rattle.std.specs.Prelude.{◌==◌, IfSome}
use Rattle.std.specs.List.{list_any}
use Rattle.ep_shared.specs.Sessions.{IsSame, IsBelow}
use Rattle.ep_shared.proofs.book.laws.same_parts.Given as goal

abbrev pub invariant-loop-session : goal.invariant-loop-session
invariant-loop-session g l = IfSome l.least (λ b. IsSame l.history.items l.handed b → ⊥) × ((d : ℕ) → IsBelow l.least d → list_any (λ s. s.name.number == d) (take l.session-index l.handed) ≡ true → IsSame l.history.items l.handed d)

abbrev pub invariant-loop-r : goal.invariant-loop-r
invariant-loop-r g l = IfSome l.least (λ b. IsSame l.history.items l.handed b → ⊥) × ((d : ℕ) → IsBelow l.least d → list_any (λ s. s.name.number == d) l.handed ≡ true → IsSame l.history.items l.handed d)
    × ((d : ℕ) → IsBelow l.least d → (list_any (λ r. r.caller.0 == d) l.r-iterator ≡ true → IsSame l.history.items l.handed d) → list_any (λ r. r.caller.0 == d) l.history.items ≡ true → IsSame l.history.items l.handed d)
