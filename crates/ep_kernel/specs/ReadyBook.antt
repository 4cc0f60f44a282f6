-- What contracts see of the kernel with ready lists.
use Rattle.std.specs.Prelude.{◌≡◌, ◌⊎◌, ◌<◌, ◌++◌, ◌==◌, List, [], ◌∷◌, MatchBool, None, Some, filter, if◌then◌else◌, length, take, false, true, ℕ}
use Rattle.ep_base.specs.Limits.{Limits}
use Rattle.ep_base.specs.declared.answer.Answer.{Answer}
use Rattle.ep_base.specs.declared.answer.Answer.TheVariants.{Events}
use Rattle.ep_base.specs.declared.answer.Report.{Report}
use Rattle.ep_base.specs.declared.call.Call.TheVariants.{EpollWait}
use Rattle.ep_base.specs.declared.call.Event.{Event}
use Rattle.ep_base.specs.declared.call.Event.TheVariants.{Call as CallOf, Resume}
use Rattle.ep_base.specs.declared.ids.CallerId.{CallerId}
use Rattle.ep_calls.specs.Acts.{is_no_memory}
use Rattle.ep_calls.specs.Book.{Book, state_of as state_in}
use Rattle.ep_law.specs.Laws.{Member, is_reportable_in, passes_on_of}
use Rattle.ep_machine.specs.Bits.{ET, has_bit}
use Rattle.ep_machine.specs.Effect.{first}
use Rattle.ep_machine.specs.Files.{is_live, named_by}
use Rattle.ep_machine.specs.Lists.{is_among}
use Rattle.ep_machine.specs.Readiness.{is_fresh}
use Rattle.ep_machine.specs.Refusal.{refusals}
use Rattle.ep_machine.specs.State.{Change, State, Waiter, Watch}
use Rattle.ep_machine.specs.Step.{change, next_event}
use Rattle.ep_machine.specs.Waits.{waiter_of}
use Rattle.ep_machine.specs.Watches.{number_in}
use Rattle.ep_order.specs.Event.{IsAltered}

-- the ready list of an instance: the numbers of the registrations on it, in order
pub record InstanceList : Type 0 where
  pub instance : ℕ
  pub registrations : List ℕ

pub record ReadyBook : Type 0 where
  pub book : Book
  pub lists : List InstanceList  -- those that are not empty

-- the state to which the history leads
abbrev pub state_of : ReadyBook → State
state_of b = state_in b.book

abbrev pub list_of : List InstanceList → ℕ → List ℕ
list_of [] e = []
list_of (x ∷ xs) e = if x.instance == e then x.registrations else list_of xs e

-- the ready list of the instance with this number; none stands on it where there is no such instance
abbrev pub listed : ReadyBook → ℕ → List ℕ
listed b e = list_of b.lists e

-- a registration of instance e has this number, is armed, and is fresh where it is edge-triggered
pub record MayBeListed (s : State) (e k : ℕ) : Type 0 where
  pub x : Watch
  pub there : Member x s.watches
  pub instance : x.instance ≡ e
  pub number : x.number ≡ k
  pub armed : x.armed ≡ true
  pub fresh : has_bit x.mask ET ≡ true → is_fresh s x ≡ true

-- the event is a wait at instance e for so many reports at most, or a resumption of a caller that is parked in such a
-- wait
abbrev pub WaitsAt : State → ℕ → Event → ℕ → ℕ → Type 0
WaitsAt s caller (CallOf p (EpollWait epfd max timeout)) e most = (named_by s.files p.0 epfd.0 ≡ e) × (number_in max ≡ most)
WaitsAt s caller Resume e most = (w : Waiter) × (waiter_of s caller ≡ Some w) × (w.instance ≡ e) × (w.most ≡ most)
WaitsAt s caller event e most = ⊥

-- a wait at instance e that is answered with reports reports the first reportable registrations of its list, in its
-- order
abbrev pub ReportsFirst : State → ℕ → Event → Answer → List ℕ → (ℕ → List ℕ) → Type 0
ReportsFirst s caller event answer picked list = (e most : ℕ) (reports : List Report) → answer ≡ Events reports
    → WaitsAt s caller event e most → picked ≡ take most (filter (is_reportable_in s e) (list e))

-- where a wait at instance e is answered with fewer reports than it asked for, what is left on the list of e is
-- reportable, if e lives on
abbrev pub LeavesReportable : State → State → ℕ → Event → Answer → (ℕ → List ℕ) → Type 0
LeavesReportable s t caller event answer list = (e most : ℕ) (reports : List Report) → answer ≡ Events reports
    → WaitsAt s caller event e most → length reports < most → is_live t.files e ≡ true
    → (k : ℕ) → is_among (list e) k ≡ true → is_reportable_in t e k ≡ true

-- what an event that is not refused adds to the list of instance e: a registration k through which something of the
-- event's spread passes on, or one that an ADD or MOD altered and left reportable. A refused event adds nothing.
pub record IsAdded (limits : Limits) (caller : ℕ) (event : Event) (picked : List ℕ) (s t : State) (e k : ℕ) : Type 0 where
  pub may : MayBeListed t e k
  pub accepted : first (refusals limits (next_event s) caller event) ≡ None
  pub made : Change
  pub is : change limits (next_event s) caller event picked ≡ Some made
  pub cause : (passes_on_of made may.x ≡ true) ⊎ (IsAltered s event may.x × (is_reportable_in made.1 e k ≡ true))

-- each registration that comes to a list was added to it
abbrev pub AreAdded : Limits → ℕ → Event → List ℕ → State → State → (ℕ → List ℕ) → (ℕ → List ℕ) → Type 0
AreAdded limits caller event picked s t old new = (e k : ℕ) → is_among (new e) k ≡ true → is_among (old e) k ≡ false
    → IsAdded limits caller event picked s t e k

-- one record was added, and what its event did to the ready lists
pub record TurnsLists (caller : CallerId) (event : Event) (answer : Answer) (old new : ReadyBook) : Type 0 where
  pub picked : List ℕ
  pub added : new.book.past ≡ old.book.past ++ record { caller = caller; event = event; answer = answer; picked = picked } ∷ []
  pub first : ReportsFirst (state_of old) caller.0 event answer picked (listed old)
  pub few : LeavesReportable (state_of old) (state_of new) caller.0 event answer (listed new)
  pub arrives : AreAdded old.book.limits caller.0 event picked (state_of old) (state_of new) (listed old) (listed new)

-- want of memory leaves the lists
abbrev pub ActsOnLists : CallerId → Event → Answer → ReadyBook → ReadyBook → Type 0
ActsOnLists caller event answer old new =
    MatchBool (is_no_memory answer) (new.lists ≡ old.lists) (TurnsLists caller event answer old new)
