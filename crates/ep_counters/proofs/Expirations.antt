-- When expirations fall.
use Rattle.std.proofs.Common.{arith, None, Option, Some, ℕ, ◌*◌, ◌+◌, ◌-◌, ◌/◌, ◌<◌, ◌≡◌, ◌≤◌}
use Rattle.std.proofs.lemmas.Bool.Decides.{nat_tests}
use Rattle.std.proofs.Math.Nat.{div-lt_iff_lt-mul, le-div_iff_mul-le}
use Rattle.ep_counters.specs.Timer.{expiration_from}
use Rattle.ep_machine.specs.Timer.{expirations_from}

-- after so many of a periodic timer, the next one falls later
pub falls-later : (first interval past now : ℕ) → 0 < interval → first ≤ now → 1 + (now - first) / interval ≤ past → now < first + past * interval
falls-later first interval past now some begun most =
    let h : now - first < past * interval = (div-lt_iff_lt-mul some).0 (omega arith) in
    omega arith

-- after fewer it has fallen
pub has_fallen : (first interval past now : ℕ) → 0 < interval → first ≤ now → past < 1 + (now - first) / interval → first + past * interval ≤ now
has_fallen first interval past now some begun more =
    let h : past * interval ≤ now - first = (le-div_iff_mul-le some).0 (omega arith) in
    omega arith

pub expiration-later : (first : Option ℕ) (interval past now moment : ℕ) → expirations_from first interval now ≤ past → expiration_from first interval past ≡ Some moment → now < moment
expiration-later None interval past now moment h e = cc
expiration-later (Some first) interval past now moment h e = grind (arith, nat_tests, falls-later first interval past now)

pub expiration-by : (first : Option ℕ) (interval past now moment : ℕ) → past < expirations_from first interval now → expiration_from first interval past ≡ Some moment → moment ≤ now
expiration-by None interval past now moment h e = cc
expiration-by (Some first) interval past now moment h e = grind (arith, nat_tests, has_fallen first interval past now)

pub expirations-none : (first : Option ℕ) (interval past now : ℕ) → expiration_from first interval past ≡ None → expirations_from first interval now ≤ past
expirations-none None interval past now e = omega arith
expirations-none (Some first) interval past now e = grind (arith, nat_tests)
