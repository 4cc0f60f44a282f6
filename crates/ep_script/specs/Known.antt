-- What is known of a reader's or a writer's bytes, before and after.
use Rattle.std.specs.Prelude.{Bool, Err, List, None, Ok, Option, Result, Some, nat_lt, true, ⊤, ℕ, ◌&&◌, ◌==◌}

-- where the bytes were known they still are, and P holds of both
abbrev pub Leads : Option (List ℕ) → Option (List ℕ) → (List ℕ → List ℕ → Type 0) → Type 0
Leads None after P = ⊤
Leads (Some xs) None P = ⊥
Leads (Some xs) (Some ys) P = P xs ys

-- an error, or a write of a byte or more that took none
abbrev pub write_failed : {E : Type 0} → Result ℕ E → ℕ → Bool
write_failed (Ok n) size = (n == 0) && nat_lt 0 size
write_failed (Err e) size = true
