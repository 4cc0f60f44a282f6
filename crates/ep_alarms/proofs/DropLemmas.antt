-- Timers taken out one after another.
use Rattle.std.proofs.Common.{◌≡◌, ℕ, Bool, List, None, cond, nat_eq}
use Rattle.std.specs.List.{list_any}
use Rattle.ep_base.specs.declared.ids.DescId.{DescId}
use Rattle.ep_due.specs.DueMap.{Moments, moment_of}

abbrev pub is_one_of : List DescId → ℕ → Bool
is_one_of descs k = list_any (λ desc. nat_eq desc.0 k) descs

-- once the rest is out, all are
abbrev pub Loses : List DescId → List DescId → Moments → Moments → Type 0
Loses all rest old new = (k : ℕ) → cond (is_one_of rest k) None (moment_of new k) ≡ cond (is_one_of all k) None (moment_of old k)
