use Rattle.std.proofs.Common.{decimal, length, ◌++◌, ◌<◌, ◌^◌, ◌≡◌}
use Rattle.ep_text.proofs.plain.natural.Given as goal

abbrev pub invariant-digits : goal.invariant-digits
invariant-digits l = (l.rest ≡ decimal l.number ++ l.left) × (l.number < 10 ^ 18)

abbrev pub decreases-digits : goal.decreases-digits
decreases-digits l = length l.left
