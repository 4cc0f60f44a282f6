-- What an event does to the parts of a kernel.
use Rattle.std.specs.Prelude.{true, ◌≡◌, Bool, List, MatchOption, Option, Some, [], map, ℕ}
use Rattle.ep_base.specs.Limits.{Limits}
use Rattle.ep_base.specs.declared.answer.Answer.{Answer}
use Rattle.ep_base.specs.declared.answer.Answer.TheVariants.{Refused}
use Rattle.ep_base.specs.declared.call.Call.{Call}
use Rattle.ep_base.specs.declared.call.Event.{Event}
use Rattle.ep_base.specs.declared.errno.Errno.{Errno}
use Rattle.ep_machine.specs.Effect.{first}
use Rattle.ep_machine.specs.Marks.{marked_by}
use Rattle.ep_machine.specs.Waits.{marked_if_due}
use Rattle.ep_view.specs.KernelView.{climbed_all, climbing_all, freshened, kernel_watches}
use Rattle.ep_view.specs.AtRest.{AtRest}
use Rattle.ep_view.specs.Marking.{gets_mark_now, left_now}
use Rattle.ep_machine.specs.Refusal.{call_refusals, refusals}
use Rattle.ep_law.specs.Sound.{Sound}
use Rattle.ep_machine.specs.State.{Change, State, Waiter}
use Rattle.ep_machine.specs.Step.{call_change, change}
use Rattle.ep_machine.specs.Watches.{is_legal, links}
use Rattle.ep_calls.specs.Raising.{Raises}
use Rattle.ep_calls.specs.declared.raising.Raising.{Raising}
use Rattle.ep_calls.specs.Stands.{watch_at, waiters_at, Stands}
use Rattle.ep_table.specs.Value.{Seen}
use Rattle.ep_calls.specs.Parts.{Parts}

abbrev pub StandFor : Parts → State → Type 0
StandFor p s = Stands p.tables p.interest p.parked p.clock s

-- the same once what event n raised is noted in the registrations
pub record StandsRaised (n : ℕ) (p : Parts) (raised : List (ℕ × ℕ)) (s : State) : Type 0 where
  pub now : s.now ≡ p.clock
  pub files : s.files ≡ p.tables.files
  pub watches : map (freshened n raised) (kernel_watches s s.watches) ≡ map (watch_at p.tables.keys) p.interest.entries
  pub added : s.added ≡ p.interest.added
  pub waiters : s.waiters ≡ waiters_at p.tables.keys p.parked

-- Whether the end of event n marks somebody at an instance. The parts are those once the dead are gone; `waited` were
-- parked before the event, and `raised` says at which instances it raised IN.
abbrev pub gets_mark_in : ℕ → List Waiter → (ℕ → Bool) → Parts → ℕ → Bool
gets_mark_in n waited raised p e =
    let ws = waiters_at p.tables.keys p.parked in
    let watches = climbing_all n p.tables.files (map (watch_at p.tables.keys) p.interest.entries) in
    gets_mark_now p.tables.files p.clock n watches (map (marked_if_due p.clock) ws) raised (left_now waited ws) e

-- and once the dead are gone, before what was raised climbs through instances and before marks are set
pub record StandsBuried (n : ℕ) (waited : List Waiter) (raised : ℕ → Bool) (p : Parts) (s : State) : Type 0 where
  pub now : s.now ≡ p.clock
  pub files : s.files ≡ p.tables.files
  pub watches : kernel_watches s s.watches ≡ climbed_all n p.tables.files (map (watch_at p.tables.keys) p.interest.entries)
  pub added : s.added ≡ p.interest.added
  pub waiters : s.waiters ≡ marked_by (gets_mark_in n waited raised p) s.now (waiters_at p.tables.keys p.parked)

-- the machine makes this change, with this answer, to a state for which the parts stand
pub record Makes (o : Option Change) (answer : Answer) (new : Parts) : Type 0 where
  pub made : Change
  pub is : o ≡ Some made
  pub answers : made.0 ≡ answer
  pub stands : StandFor new made.1

-- the machine refuses with this answer, and the parts still stand for the state
pub record Refuses (s : State) (e : Errno) (answer : Answer) (picked : List ℕ) (new : Parts) : Type 0 where
  pub answers : answer ≡ Refused e
  pub unpicked : picked ≡ []
  pub stands : StandFor new s

-- a refusal of the list, or the change
abbrev pub Goes : List (Bool × Errno) → Option Change → State → Answer → List ℕ → Parts → Type 0
Goes refusals o s answer picked new = MatchOption (first refusals) (Makes o answer new) (λ e. Refuses s e answer picked new)

-- from every state of the machine for which the old parts stand, at event n
abbrev pub MovesBy : ℕ → Parts → (State → Type 0) → Type 0
MovesBy n old Then = (s : State) → s.n ≡ n → Sound s → AtRest s → is_legal (links s) ≡ true → StandFor old s → Then s

-- and of which this holds
abbrev pub MovesIf : (State → Type 0) → ℕ → Parts → (State → Type 0) → Type 0
MovesIf Also n old Then = MovesBy n old (λ s. Also s → Then s)

-- from every such state what a call raises is noted
abbrev pub RaisesCall : Limits → ℕ → ℕ → ℕ → Call → List ℕ → Raising → Parts → Seen → ℕ → Type 0
RaisesCall limits n caller p call picked raising old tables now =
    MovesBy n old (λ s. Raises (call_refusals limits s p call)
    (call_change limits s caller p call picked) raising tables now)

abbrev pub RaisesEvent : Limits → ℕ → ℕ → Event → List ℕ → Raising → Parts → Seen → ℕ → Type 0
RaisesEvent limits n caller event picked raising old tables now =
    MovesBy n old (λ s. Raises (refusals limits s caller event)
    (change limits s caller event picked) raising tables now)
