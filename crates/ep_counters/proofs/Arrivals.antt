-- When a timer becomes readable: where its first unread expiration falls.
use Rattle.std.proofs.Common.{ap, arith, nat_le, nat_lt, None, Option, refl, Some, sym, ℕ, ◌&&◌, ◌-◌, ◌<◌, ◌==◌, ◌≡◌, ◌≤◌, ◌∙◌, ⊎_elim}
use Rattle.std.proofs.lemmas.Bool.{cases_lt, le-leb, lt-leb}
use Rattle.std.proofs.lemmas.Bool.Decides.{nat_tests}
use Rattle.ep_counters.proofs.Expirations.{expiration-by, expiration-later, expirations-none}
use Rattle.ep_counters.specs.Law.{is_by}
use Rattle.ep_counters.specs.Timer.{Arrives, IsNextArrival, expiration_after}
use Rattle.ep_machine.specs.Bits.{IN, when}
use Rattle.ep_machine.specs.Timer.{Timer, expirations, timer_advance, unread}

pub unread-before : (t : Timer) (now moment : ℕ) → expiration_after t t.taken ≡ Some moment → now < moment → unread t now ≡ 0
unread-before t now moment e early =
    ⊎_elim (λ more. absurd (omega (arith, expiration-by t.first_moment t.interval t.taken now moment more e))) (λ few. omega arith) (cases_lt t.taken (expirations t now))

pub unread-from : (t : Timer) (now moment : ℕ) → expiration_after t t.taken ≡ Some moment → moment ≤ now → 0 < unread t now
unread-from t now moment e late =
    ⊎_elim (λ more. omega arith) (λ few. absurd (omega (arith, expiration-later t.first_moment t.interval t.taken now moment few e))) (cases_lt t.taken (expirations t now))

pub unread-none : (t : Timer) (now : ℕ) → expiration_after t t.taken ≡ None → unread t now ≡ 0
unread-none t now e = omega (arith, expirations-none t.first_moment t.interval t.taken now e)

pub IsNextArrival-later : (t : Timer) (now moment : ℕ) → expiration_after t t.taken ≡ Some moment → now < moment → IsNextArrival t now (Some moment)
IsNextArrival-later t now moment e later =
    (later, (unread-before t (moment - 1) moment e (omega arith), unread-from t moment moment e (omega arith)), λ k after before arrives. omega (arith, unread-before t k moment e before, arrives.1))

pub IsNextArrival-past : (t : Timer) (now moment : ℕ) → expiration_after t t.taken ≡ Some moment → moment ≤ now → IsNextArrival t now None
IsNextArrival-past t now moment e past = λ k after arrives. omega (arith, unread-from t (k - 1) moment e (omega arith), arrives.0)

-- where the clock raises nothing
advance-quiet : (before after : ℕ) → after ≡ 0 → when (before == 0 && nat_lt 0 after) IN ≡ 0
advance-quiet before after none = grind (arith, nat_tests)

advance-unread : (before after : ℕ) → 0 < before → when (before == 0 && nat_lt 0 after) IN ≡ 0
advance-unread before after some = grind (arith, nat_tests)

-- and where it does
advance-fresh : (before after : ℕ) → before ≡ 0 → 0 < after → when (before == 0 && nat_lt 0 after) IN ≡ IN
advance-fresh before after none some = grind (arith, nat_tests)

-- one moment at most: where the first unread expiration falls
arrival-moment : (t : Timer) (k moment : ℕ) → expiration_after t t.taken ≡ Some moment → 0 < k → Arrives t k → k ≡ moment
arrival-moment t k moment e positive arrives =
    let late : k < moment → ⊥ = λ h. omega (arith, unread-before t k moment e h, arrives.1) in
    let early : moment ≤ k - 1 → ⊥ = λ h. omega (arith, unread-from t (k - 1) moment e h, arrives.0) in
    omega (arith, late, early)

advance-next : (t : Timer) (old new moment next : ℕ) → expiration_after t t.taken ≡ Some moment → old < moment → next ≡ moment → timer_advance t old new ≡ when (is_by (Some next) new) IN
advance-next t old new moment next e later same =
    let quiet : new < moment → timer_advance t old new ≡ when (nat_le next new) IN = λ early.
    advance-quiet (unread t old) (unread t new) (unread-before t new moment e early) ∙ sym (ap (λ b. when b IN) (lt-leb next new (omega arith))) in
    let fresh : moment ≤ new → timer_advance t old new ≡ when (nat_le next new) IN = λ late.
    advance-fresh (unread t old) (unread t new) (unread-before t old moment e later) (unread-from t new moment e late) ∙ sym (ap (λ b. when b IN) (le-leb next new (omega arith))) in
    ⊎_elim quiet fresh (cases_lt new moment)

advance-arrival : (t : Timer) (old new : ℕ) (first next : Option ℕ) → expiration_after t t.taken ≡ first → IsNextArrival t old next → timer_advance t old new ≡ when (is_by next new) IN
advance-arrival t old new None None e h = advance-quiet (unread t old) (unread t new) (unread-none t new e)
advance-arrival t old new None (Some next) e h = absurd (omega (arith, unread-none t next e, h.1.1))
advance-arrival t old new (Some moment) None e h =
    ⊎_elim (λ later. absurd (h moment later ((IsNextArrival-later t old moment e later).1)))
    (λ past. advance-unread (unread t old) (unread t new) (unread-from t old moment e past)) (cases_lt old moment)
advance-arrival t old new (Some moment) (Some next) e h =
    let same : next ≡ moment = arrival-moment t next moment e (omega (arith, h.0)) h.1 in
    advance-next t old new moment next e (omega (arith, h.0)) same

pub advance-when_next : (t : Timer) (old new : ℕ) (next : Option ℕ) → IsNextArrival t old next → timer_advance t old new ≡ when (is_by next new) IN
advance-when_next t old new next h = advance-arrival t old new (expiration_after t t.taken) next refl h

-- a later moment follows the first one, from which on some are unread
arrivals-end : (t : Timer) (moment new : ℕ) (first : Option ℕ) → expiration_after t t.taken ≡ first → 0 < moment → Arrives t moment → moment ≤ new → IsNextArrival t new None
arrivals-end t moment new None e positive arrives le = absurd (omega (arith, unread-none t moment e, arrives.1))
arrivals-end t moment new (Some first) e positive arrives le =
    IsNextArrival-past t new first e (omega (arith, arrival-moment t moment first e positive arrives))

pub IsNextArrival-after : (t : Timer) (moment new : ℕ) → 0 < moment → Arrives t moment → moment ≤ new → IsNextArrival t new None
IsNextArrival-after t moment new positive arrives le = arrivals-end t moment new (expiration_after t t.taken) refl positive arrives le
