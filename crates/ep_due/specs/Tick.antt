-- A tick takes each place whose moment has come, once.
use Rattle.std.specs.Prelude.{◌≡◌, ℕ, ◌+◌, nat_le, ◌==◌, Bool, false, List, Option, Some, None, ◌⊎◌, cond}
use Rattle.std.specs.List.{count_by}
use Rattle.ep_due.specs.declared.due.DuePlace.{DuePlace}
use Rattle.ep_due.specs.DueQueue.{moment_at}

-- a moment that has come
abbrev pub is_due : ℕ → Option (Option ℕ) → Bool
is_due now None = false
is_due now (Some None) = false
is_due now (Some (Some m)) = nat_le m now

-- how many places are due: the measure of a tick's loop
abbrev pub due_count : ℕ → List (Option (Option ℕ)) → ℕ
due_count now v = count_by (is_due now) v

-- 1 for a place that is due
abbrev pub due_weight : ℕ → List (Option (Option ℕ)) → ℕ → ℕ
due_weight now v p = cond (is_due now (moment_at v p)) 1 0

-- how often a place was taken
abbrev pub times_taken : ℕ → List DuePlace → ℕ
times_taken p taken = count_by (λ d. d.0 == p) taken

-- some places that were due are taken, each once, and have the next moment or none; the others are as they were
pub record TakesDue (now : ℕ) (next : Option ℕ) (old new : List (Option (Option ℕ))) (before after : List DuePlace) : Type 0 where
  pub once : (p : ℕ) → times_taken p after + due_weight now new p ≡ times_taken p before + due_weight now old p
  pub kept : (p : ℕ) → (moment_at new p ≡ moment_at old p) ⊎ ((due_weight now old p ≡ 1) × (moment_at new p ≡ Some next))
