-- What an event doesn't touch stays reportable: a bit ends only at the end of an object on which a call is made.
use Rattle.std.specs.Prelude.{◌≡◌, ◌==◌, Bool, List, None, Option, Some, false, true, ℕ}
use Rattle.ep_base.specs.Limits.{Limits}
use Rattle.ep_base.specs.declared.call.Event.{Event}
use Rattle.ep_base.specs.declared.call.Event.TheVariants.{Call as CallOf}
use Rattle.ep_base.specs.declared.ids.Fd.{Fd}
use Rattle.ep_base.specs.declared.record.Record.{Record}
use Rattle.ep_law.specs.Laws.{Member}
use Rattle.ep_machine.specs.Effect.{first}
use Rattle.ep_machine.specs.Files.{named_by, object_of}
use Rattle.ep_machine.specs.Lists.{is_among}
use Rattle.ep_machine.specs.Objects.{ObjectCall, asks, instance}
use Rattle.ep_machine.specs.Readiness.{is_reportable_by}
use Rattle.ep_machine.specs.Refusal.{refusals}
use Rattle.ep_machine.specs.Run.{run}
use Rattle.ep_machine.specs.State.{Change, State, Watch, opening}
use Rattle.ep_machine.specs.Step.{change, next_event}
pub use Rattle.ep_object.specs.Law.{CallEndsHereOnly, ClockEndsNothing, CloseEndsNothing}
use Rattle.ep_order.specs.Event.{IsAltered, end_of}
use Rattle.ep_base.specs.declared.call.Call.TheVariants.{Accept}
use Rattle.std.specs.Prelude.{List, None, Option, Some}

-- a call that is taken apart so is on the object of this description, and so is an event; an accept is on its listener
abbrev pub is_object_of : State → ℕ → Option (Fd × ObjectCall) → ℕ → Bool
is_object_of s p None d = false
is_object_of s p (Some on) d = named_by s.files p on.0.0 == d

abbrev pub is_called : State → Event → ℕ → Bool
is_called s (CallOf p (Accept fd cloexec)) d = named_by s.files p.0 fd.0 == d
is_called s (CallOf p call) d = is_object_of s p.0 (asks s.files.objects call) d
is_called s event d = false

-- an event that picks these numbers doesn't touch registration x, if `later` says which instances are ready at its end
pub record IsUntouched (s : State) (event : Event) (picked : List ℕ) (later : ℕ → Bool) (x : Watch) : Type 0 where
  -- it doesn't report x,
  pub unpicked : is_among picked x.number ≡ false
  -- nor add or modify it,
  pub unaltered : IsAltered s event x → ⊥
  -- nor is it a call on what x watches;
  pub uncalled : is_called s event x.target ≡ false
  -- and if x watches an instance, that is ready at the end
  pub below : object_of s.files x.target ≡ Some instance → later x.target ≡ true

-- a registration that an event doesn't touch stays reportable if it stays, whatever was said of the instances before
abbrev pub UntouchedStayReportable : Type 0
UntouchedStayReportable = (limits : Limits) (past : List Record) (s : State) (caller : ℕ) (event : Event)
    (picked : List ℕ) (c : Change) (ready later : ℕ → Bool) (x y : Watch)
    → run limits opening past ≡ Some s → first (refusals limits (next_event s) caller event) ≡ None
    → change limits (next_event s) caller event picked ≡ Some c
    → Member x s.watches → Member y (end_of s c).watches → y.number ≡ x.number
    → IsUntouched s event picked later x
    → is_reportable_by ready s x ≡ true → is_reportable_by later (end_of s c) y ≡ true
