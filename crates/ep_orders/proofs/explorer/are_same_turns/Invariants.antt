use Rattle.std.proofs.Common.{◌≡◌, ◌≤◌, length, take}
use Rattle.ep_orders.proofs.explorer.are_same_turns.Given as goal

abbrev pub invariant-loop-place : goal.invariant-loop-place
invariant-loop-place l = (take l.place l.a ≡ take l.place l.b) × (l.place ≤ length l.a) × (l.place ≤ length l.b)
