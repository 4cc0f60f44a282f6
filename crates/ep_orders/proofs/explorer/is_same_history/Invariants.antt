use Rattle.std.proofs.Common.{◌≡◌, ◌≤◌, length, take}
use Rattle.ep_records.specs.Past.{whole}
use Rattle.ep_orders.proofs.explorer.is_same_history.Given as goal

abbrev pub invariant-loop-place : goal.invariant-loop-place
invariant-loop-place l = (take l.place (whole l.a) ≡ take l.place (whole l.b)) × (l.place ≤ length (whole l.a)) × (l.place ≤ length (whole l.b))
