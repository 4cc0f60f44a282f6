-- The laws of objects: what holds of a call, a close and the clock whatever the kind of the object is. What stands on
-- objects goes by these, and not by the kinds.
use Rattle.std.specs.Prelude.{Bool, IsTrue, None, Option, Some, false, is_some, max, min, true, ℕ, ◌<◌, ◌≡◌, ◌≢◌, ◌≤◌}
use Rattle.ep_base.specs.declared.object.End.{End}
use Rattle.ep_base.specs.declared.object.End.TheVariants.{First, Second}
use Rattle.ep_counters.specs.Law.{is_by}
use Rattle.ep_machine.specs.Bits.{IN, IsCovered, at_end, raises, when}
use Rattle.ep_machine.specs.Effect.{attempt, first}
use Rattle.ep_machine.specs.Connections.{pending_in}
use Rattle.ep_machine.specs.Objects.{Object, ObjectCall, advance, close_end, is_waiting, object_effect, object_present, object_refusals, pair, pipe}
use Rattle.ep_machine.specs.Timer.{Timer}
use Rattle.ep_object.specs.Kinds.{kind_number}
use Rattle.ep_object.specs.Memory.{GivesAtMost, asked_of, object_waiting}
use Rattle.ep_object.specs.Next.{IsNextMoment, advance_of, timer_of}
use Rattle.ep_stream.specs.Law.{RaisesArrivals, pair_has, pipe_has}

-- an object that is no pipe and no pair has the first end alone
abbrev pub is_first : End → Bool
is_first First = true
is_first Second = false

-- this end is there
abbrev pub object_has : Object → End → Bool
object_has (pipe p) e = pipe_has p e
object_has (pair p) e = pair_has p e
object_has x e = is_first e

abbrev pub present_at : ℕ → Object → End → ℕ
present_at now x e = object_present x e now

-- What begins to hold is raised: by a call,
abbrev pub ApplyLaw : Type 0
ApplyLaw = (x : Object) (e : End) (now : ℕ) (asked : ObjectCall)
    → let effect = attempt (object_refusals x e now asked) x (object_effect x e now asked) in
    RaisesArrivals object_has (present_at now) x effect.1 effect.2

-- by a close,
abbrev pub CloseLaw : Type 0
CloseLaw = (x : Object) (e : End) (now : ℕ) → let closed = close_end x e in RaisesArrivals object_has (present_at now) x closed.0 closed.1

-- and as the clock goes on.
abbrev pub AdvanceLaw : Type 0
AdvanceLaw = (x : Object) (old new : ℕ) (e : End) → IsTrue (object_has x e)
    → IsCovered (object_present x e old) (object_present x e new)
    (at_end (raises (advance x old new) 0) e)

-- each bit that holds at this end of object x at the old moment holds there at the new one, x having become y
abbrev pub EndsNothing : Object → Object → End → ℕ → ℕ → Type 0
EndsNothing x y e old new = IsCovered (object_present y e new) (object_present x e old) 0

-- What holds ends only at the end on which a call is made: a call on one end of an object ends no bit at the other end,
abbrev pub CallEndsHereOnly : Type 0
CallEndsHereOnly = (x : Object) (e o : End) (now : ℕ) (asked : ObjectCall)
    → e ≢ o → IsTrue (object_has x e) → IsTrue (object_has x o)
    → EndsNothing x (attempt (object_refusals x e now asked) x (object_effect x e now asked)).1 o now now

-- a close of one end ends no bit at either,
abbrev pub CloseEndsNothing : Type 0
CloseEndsNothing = (x : Object) (e o : End) (now : ℕ) → EndsNothing x (close_end x e).0 o now now

-- and as the clock goes on, no bit ends.
abbrev pub ClockEndsNothing : Type 0
ClockEndsNothing = (x : Object) (e : End) (old new : ℕ) → old ≤ new → EndsNothing x x e old new

pub record ObjectLaws : Type 0 where
  -- a call keeps the kind of its object, and so does a close
  pub call_keeps_kind : (x : Object) (e : End) (now : ℕ) (asked : ObjectCall)
      → kind_number (object_effect x e now asked).1 ≡ kind_number x
  pub close_keeps_kind : (x : Object) (e : End) → kind_number (close_end x e).0 ≡ kind_number x
  -- a call keeps the ends that are there, a close keeps the other one, and two closes come to the same in either order
  pub call_keeps_ends : (x : Object) (e : End) (now : ℕ) (asked : ObjectCall) (o : End)
      → object_has (object_effect x e now asked).1 o ≡ object_has x o
  pub close_keeps_other : (x : Object) (e o : End) → o ≢ e → IsTrue (object_has x o) → IsTrue (object_has (close_end x e).0 o)
  pub closes_commute : (x : Object) (a b : End) → (close_end (close_end x a).0 b).0 ≡ (close_end (close_end x b).0 a).0
  -- neither lets a connection wait to be accepted, or changes what waits at a listener
  pub call_keeps_waiting : (x : Object) (e : End) (now : ℕ) (asked : ObjectCall) → is_waiting (object_effect x e now asked).1 ≡ is_waiting x
  pub close_leaves_accepted : (x : Object) (e : End) → is_waiting x ≡ false → is_waiting (close_end x e).0 ≡ false
  pub call_keeps_pending : (x : Object) (e : End) (now : ℕ) (asked : ObjectCall)
      → pending_in (object_effect x e now asked).1 ≡ pending_in x
  pub close_keeps_pending : (x : Object) (e : End) → pending_in (close_end x e).0 ≡ pending_in x
  -- what begins to hold is raised
  pub call_raises : ApplyLaw
  pub close_raises : CloseLaw
  pub clock_raises : AdvanceLaw
  -- what holds ends only at the end on which a call is made
  pub call_ends : CallEndsHereOnly
  pub close_ends : CloseEndsNothing
  pub clock_ends : ClockEndsNothing
  -- a timer has the first end alone; a call keeps what is a timer, and a close leaves it as it was
  pub timer_has_first : (x : Object) (e : End) (t : Timer) → timer_of x ≡ Some t → IsTrue (object_has x e) → e ≡ First
  pub call_keeps_timer : (x : Object) (e : End) (now : ℕ) (asked : ObjectCall)
      → is_some (timer_of (object_effect x e now asked).1) ≡ is_some (timer_of x)
  pub close_keeps_timer : (x : Object) (e : End) → timer_of (close_end x e).0 ≡ timer_of x
  -- the clock raises something at timers only, once it has come to the next moment, and nothing while it stands still
  pub clock_is_timers : (x : Object) (old now : ℕ) → advance x old now ≡ advance_of (timer_of x) old now
  pub next_tells : (x : Object) (old now : ℕ) (next : Option ℕ)
      → IsNextMoment x old next → advance x old now ≡ when (is_by next now) IN
  pub still_raises_nothing : (x : Object) (now : ℕ) → advance x now now ≡ 0
  -- a call that isn't refused gives no more bytes than it asks for, and above 16 no more than wait
  pub gives_few : (x : Object) (e : End) (now : ℕ) (asked : ObjectCall) → first (object_refusals x e now asked) ≡ None
      → GivesAtMost (min (asked_of asked) (max 16 (object_waiting x e asked))) (object_effect x e now asked).0
  -- and it isn't refused if it asks for bytes and some wait
  pub waiting_is_given : (x : Object) (e : End) (now : ℕ) (asked : ObjectCall)
      → 0 < min (asked_of asked) (object_waiting x e asked) → first (object_refusals x e now asked) ≡ None
