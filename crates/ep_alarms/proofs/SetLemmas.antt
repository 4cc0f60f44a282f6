-- One timer gets its moment.
use Rattle.std.proofs.Common.{◌≡◌, ℕ, true, false, IsSome, None, Option, Some, is_some, refl, unwrap_or}
use Rattle.ep_base.specs.declared.ids.DescId.{DescId}
use Rattle.ep_machine.specs.Files.{Files}
use Rattle.ep_machine.specs.Timer.{Timer}
use Rattle.ep_object.specs.Next.{IsNextMoment, IsNextOf, timer_of}
use Rattle.ep_alarms.specs.Alarms.{IsSetFor}
use Rattle.ep_alarms.specs.Timers.{timer_at, timer_under}
use Rattle.ep_table.specs.Value.{Seen, content_of, number_under}

pub some_none : {X : Type 0} → (x : X) → Some x ≡ None → ⊥
some_none x h = cc

-- a timer's next moment
next_set : (now : ℕ) (t : Option Timer) (next : Option ℕ) → is_some t ≡ true → IsNextOf t now next → IsSetFor t now (Some next)
next_set now None next is h = absurd cc
next_set now (Some t) next is h = h

pub set_next : (t : Option Timer) (now : ℕ) (next : Option ℕ) → IsSetFor t now (Some next) → IsNextOf t now next
set_next None now next h = absurd (some_none next h)
set_next (Some t) now next h = h

pub set_none : (t : Option Timer) (now : ℕ) → IsSetFor t now None → t ≡ None
set_none None now h = refl
set_none (Some t) now h = absurd h

next_at : (f : Files) (now : ℕ) (o : Option ℕ) (next : Option ℕ) → is_some (timer_at f o) ≡ true → IsNextMoment (content_of f (unwrap_or o 0)) now next → IsSetFor (timer_at f o) now (Some next)
next_at f now None next is h = absurd cc
next_at f now (Some d) next is h = next_set now (timer_of (content_of f d)) next is h

timer_lives : (f : Files) (o : Option ℕ) → is_some (timer_at f o) ≡ true → IsSome o
timer_lives f None is = absurd cc
timer_lives f (Some d) is = refl

-- a timer is live
pub is_live : (v : Seen) (desc : DescId) → is_some (timer_under v desc.0) ≡ true → IsSome (number_under v desc)
is_live v desc is = timer_lives v.files (number_under v desc) is

none_of : {X : Type 0} → (o : Option X) → is_some o ≡ false → o ≡ None
none_of None h = refl
none_of (Some x) h = absurd cc
