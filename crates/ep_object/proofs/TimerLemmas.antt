-- Which objects are timers, and what calls, closes and the clock do to them.
use Rattle.std.proofs.Common.{◌≡◌, ◌∙◌, ◌==◌, ◌&&◌, ℕ, true, None, Option, Some, ap, arith, is_some, nat_lt, refl, sym}
use Rattle.std.proofs.lemmas.Bool.Decides.{nat_tests}
use Rattle.ep_base.specs.declared.object.End.{End}
use Rattle.ep_base.specs.declared.object.End.TheVariants.{First, Second}
use Rattle.ep_counters.specs.Law.{NextTellsAdvance, is_by}
use Rattle.ep_machine.specs.Bits.{IN, when}
use Rattle.ep_machine.specs.Objects.{Object, ObjectCall, advance, close_end, object_effect, plain, timer}
use Rattle.ep_machine.specs.Timer.{Timer, unread}
use Rattle.ep_object.proofs.KindLemmas.{call_keeps}
use Rattle.ep_object.specs.Kinds.{kind_number}
use Rattle.ep_object.specs.Law.{object_has}
use Rattle.ep_object.specs.Next.{IsNextMoment, IsNextOf, advance_of, timer_of}

-- what is a timer stays one, and what is none stays none
timer_by_kind : (x : Object) → is_some (timer_of x) ≡ (kind_number x == 4)
timer_by_kind plain = refl
timer_by_kind x = refl

pub call_keeps_timer : (x : Object) (e : End) (now : ℕ) (asked : ObjectCall) → is_some (timer_of (object_effect x e now asked).1) ≡ is_some (timer_of x)
call_keeps_timer = call_keeps (λ (y : Object). is_some (timer_of y)) 4 timer_by_kind

pub close_keeps_timer : (x : Object) (e : End) → timer_of (close_end x e).0 ≡ timer_of x
close_keeps_timer plain e = refl
close_keeps_timer x e = refl

pub timer_has_first : (x : Object) (e : End) (t : Timer) → timer_of x ≡ Some t → object_has x e ≡ true → e ≡ First
timer_has_first x First t is h = refl
timer_has_first (timer u) Second t is h = absurd cc
timer_has_first x Second t is h = absurd cc

-- The clock.
pub clock_is_timers : (x : Object) (old now : ℕ) → advance x old now ≡ advance_of (timer_of x) old now
clock_is_timers plain old now = refl
clock_is_timers x old now = refl

pub no_timer_raises : (x : Object) (old now : ℕ) → timer_of x ≡ None → advance x old now ≡ 0
no_timer_raises x old now none = clock_is_timers x old now ∙ ap (λ (t : Option Timer). advance_of t old now) none

next_of : NextTellsAdvance → (t : Option Timer) (old now : ℕ) (next : Option ℕ) → IsNextOf t old next → advance_of t old now ≡ when (is_by next now) IN
next_of law None old now next h = ap (λ (o : Option ℕ). when (is_by o now) IN) (sym h)
next_of law (Some t) old now next h = law t old now next h

pub next_tells : NextTellsAdvance → (x : Object) (old now : ℕ) (next : Option ℕ) → IsNextMoment x old next → advance x old now ≡ when (is_by next now) IN
next_tells law x old now next h = clock_is_timers x old now ∙ next_of law (timer_of x) old now next h

-- the clock that stands still raises nothing
no_bit : (n : ℕ) → when (n == 0 && nat_lt 0 n) IN ≡ 0
no_bit n = grind (arith, nat_tests)

still_of : (t : Option Timer) (now : ℕ) → advance_of t now now ≡ 0
still_of None now = refl
still_of (Some t) now = no_bit (unread t now)

pub still_raises_nothing : (x : Object) (now : ℕ) → advance x now now ≡ 0
still_raises_nothing x now = clock_is_timers x now now ∙ still_of (timer_of x) now
