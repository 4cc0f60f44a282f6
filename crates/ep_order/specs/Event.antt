-- What an event may do to the lists of registrations from which waits take what they report.
use Rattle.std.specs.Prelude.{◌≡◌, ◌++◌, Bool, List, [], None, Some, false, filter, true, ℕ}
use Rattle.ep_base.specs.Limits.{Limits}
use Rattle.ep_base.specs.declared.call.Call.TheVariants.{EpollCtl}
use Rattle.ep_base.specs.declared.call.Event.{Event}
use Rattle.ep_base.specs.declared.call.Event.TheVariants.{Call as CallOf}
use Rattle.ep_base.specs.declared.record.Record.{Record}
use Rattle.ep_law.specs.Laws.{Member, is_reportable_in, passes_on_of}
use Rattle.ep_machine.specs.Deaths.{buried}
use Rattle.ep_machine.specs.Effect.{first}
use Rattle.ep_machine.specs.Files.{is_live, named_by}
use Rattle.ep_machine.specs.Lists.{is_among}
use Rattle.ep_machine.specs.Readiness.{is_reportable}
use Rattle.ep_machine.specs.Refusal.{refusals}
use Rattle.ep_machine.specs.Run.{run}
use Rattle.ep_machine.specs.Settle.{settle}
use Rattle.ep_machine.specs.State.{Change, State, Watch, opening}
use Rattle.ep_machine.specs.Step.{change, next_event}
use Rattle.ep_machine.specs.Watches.{has_key, is_del, number_in}
use Rattle.ep_view.specs.AtRest.{AtRest}
use Rattle.ep_order.specs.Order.{IsComplete, IsFairOrder}
use Rattle.ep_order.specs.Pick.{turns_of}

-- state s after an event with this change
abbrev pub end_of : State → Change → State
end_of s c = settle (next_event s) c.1 c.2

-- the event is an epoll_ctl that adds or modifies this registration
abbrev pub IsAltered : State → Event → Watch → Type 0
IsAltered s (CallOf p (EpollCtl epfd op fd mask tag)) x =
    (is_del op ≡ false)
    × (has_key (named_by s.files p.0 epfd.0) (number_in fd.0) (named_by s.files p.0 fd.0) x ≡ true)
IsAltered s event x = ⊥

-- a registration of instance e after the change, which outlives the deaths and is reportable at the end
pub record EndsReportable (s : State) (c : Change) (e : ℕ) (x : Watch) : Type 0 where
  pub there : Member x c.1.watches
  pub left : Member x (buried c.1 c.2).0.watches
  pub instance : x.instance ≡ e
  pub ready : is_reportable_in (end_of s c) e x.number ≡ true

-- how the list of instance e has to go on: what stays keeps its order, and others come behind
pub record Relists (s : State) (event : Event) (picked : List ℕ) (c : Change) (e : ℕ) (old new : List ℕ) : Type 0 where
  pub keeps : ℕ → Bool
  pub more : List ℕ
  pub is : new ≡ filter keeps old ++ more
  -- what the event reports does not stay where it stood
  pub unpicked : (k : ℕ) → is_among old k ≡ true → keeps k ≡ true → is_among picked k ≡ false
  -- what leaves, though it is reportable before and after, is reported
  pub leaves : (k : ℕ) → is_among old k ≡ true → keeps k ≡ false
      → is_reportable_in s e k ≡ true → is_reportable_in (end_of s c) e k ≡ true → is_among picked k ≡ true
  -- what comes does not stand there already
  pub comes : (k : ℕ) → is_among more k ≡ true → is_among (filter keeps old) k ≡ false
  -- on the new list stands what passes on something of the spread,
  pub passes : (x : Watch) → EndsReportable s c e x → passes_on_of c x ≡ true → is_among new x.number ≡ true
  -- what is reportable again after its report,
  pub again : (x : Watch) → EndsReportable s c e x → is_reportable c.1 x ≡ true → is_among picked x.number ≡ true
      → is_among new x.number ≡ true
  -- and what is reportable once it was added or modified
  pub alters : (x : Watch) → EndsReportable s c e x → is_reportable c.1 x ≡ true → IsAltered s event x
      → is_among new x.number ≡ true

-- a list that is complete and in a fair order, is so after an event
abbrev pub ListsGoOn : Type 0
ListsGoOn = (limits : Limits) (past : List Record) (s : State) (caller : ℕ) (event : Event) (picked : List ℕ) (c : Change)
    → run limits opening past ≡ Some s → first (refusals limits (next_event s) caller event) ≡ None
    → change limits (next_event s) caller event picked ≡ Some c
    → (e : ℕ) (old new : List ℕ)
    → IsFairOrder (turns_of s e) old → IsComplete (turns_of s e) old → Relists s event picked c e old new
    → IsFairOrder (turns_of (end_of s c) e) new × IsComplete (turns_of (end_of s c) e) new

-- that an event begins changes no turn; nor does one that is refused
abbrev pub BeginningKeepsTurns : Type 0
BeginningKeepsTurns = (s : State) (e : ℕ) → turns_of (next_event s) e ≡ turns_of s e

-- at an instance that does not live nothing is reportable: the list of one that the event makes was empty before
abbrev pub DeadListsAreEmpty : Type 0
DeadListsAreEmpty = (s : State) (e : ℕ) → AtRest s → is_live s.files e ≡ false → IsComplete (turns_of s e) []
