use Rattle.std.proofs.Common.{◌≡◌, ◌+◌, ◌≤◌, sum_by, vec_len, vec_items}
use Rattle.ep_shared.proofs.book.handed.gather.Given as goal

abbrev pub invariant-loop-session : goal.invariant-loop-session
invariant-loop-session g l = (l.all.parts + vec_len l.handed ≡ vec_len l.fn.handed) × (l.all.amount + sum_by (λ s. vec_len s.records) (vec_items l.handed) ≡ sum_by (λ s. vec_len s.records) (vec_items l.fn.handed)) × (l.all.parts ≤ g.L.Ledger.parts)

abbrev pub decreases-loop-session : goal.decreases-loop-session
decreases-loop-session g l = vec_len l.handed
