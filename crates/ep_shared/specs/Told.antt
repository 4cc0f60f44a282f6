-- What a call under the lock adds to the records of its session.
use Rattle.std.specs.Prelude.{◌≡◌, ◌++◌, ◌∷◌, ◌&&◌, ◌⊎◌, [], All, Bool, List, MatchBool, false, not, true, ℕ}
use Rattle.ep_base.specs.declared.answer.Answer.{Answer}
use Rattle.ep_base.specs.declared.answer.Answer.TheVariants.{Events, Parked, Refused, Still}
use Rattle.ep_base.specs.declared.call.Call.TheVariants.{EpollWait}
use Rattle.ep_base.specs.declared.call.Event.{Event}
use Rattle.ep_base.specs.declared.call.Event.TheVariants.{Call as CallOf, Resume, Tick}
use Rattle.ep_base.specs.declared.errno.Errno.TheVariants.{Einval, Enomem}
use Rattle.ep_base.specs.declared.record.Record.{Record}
use Rattle.ep_machine.specs.State.{State}
use Rattle.ep_machine.specs.Waits.{is_marked, is_parked}
use Rattle.ep_calls.specs.Acts.{is_no_memory}
use Rattle.ep_shared.specs.declared.shared.WaitCall.{WaitCall}

-- a record of a caller, with this event and this answer
pub record IsTold (caller : ℕ) (event : Event) (answer : Answer) (r : Record) : Type 0 where
  pub by : r.caller.0 ≡ caller
  pub asked : r.event ≡ event
  pub answered : r.answer ≡ answer

-- one such record more
pub record Gains (caller : ℕ) (event : Event) (answer : Answer) (old new : List Record) : Type 0 where
  pub more : Record
  pub told : IsTold caller event answer more
  pub added : new ≡ old ++ more ∷ []

-- what one event adds: its record, or none for want of memory
abbrev pub Adds : ℕ → Event → Answer → List Record → List Record → Type 0
Adds caller event answer old new = MatchBool (is_no_memory answer) (new ≡ old) (Gains caller event answer old new)

-- resumptions in vain, each of which was answered that the caller is still parked
pub record Vain (caller : ℕ) (old new : List Record) : Type 0 where
  pub stills : List Record
  pub told : All (IsTold caller Resume Still) stills
  pub added : new ≡ old ++ stills

-- what the resumption of a wait adds: some in vain, and then one that was answered otherwise, or want of memory
pub record ResumeAdds (caller : ℕ) (answer : Answer) (old new : List Record) : Type 0 where
  pub mid : List Record
  pub vain : Vain caller old mid
  pub ends : Adds caller Resume answer mid new

-- an answer that ends a wait that parked: its reports, EINVAL where its caller isn't parked, or ENOMEM for want of
-- memory
abbrev pub ends_parked : Answer → Bool
ends_parked (Events reports) = true
ends_parked (Refused Einval) = true
ends_parked (Refused Enomem) = true
ends_parked answer = false

-- what a wait that parked adds
pub record ParkAdds (caller : ℕ) (event : Event) (answer : Answer) (old new : List Record) : Type 0 where
  pub mid : List Record
  pub parks : Gains caller event Parked old mid
  pub resumes : ResumeAdds caller answer mid new
  pub ended : ends_parked answer ≡ true

-- the event that a wait begins with
abbrev pub wait_event : WaitCall → Event
wait_event w = CallOf w.pid (EpollWait w.epfd w.max w.timeout)

-- what a wait adds: its record alone, or that it parked, and then what its resumption adds
abbrev pub WaitAdds : ℕ → Event → Answer → List Record → List Record → Type 0
WaitAdds caller event answer old new = Adds caller event answer old new ⊎ ParkAdds caller event answer old new

-- an answer that ends a wait: its reports, or a refusal
abbrev pub ends_wait : Answer → Bool
ends_wait (Events reports) = true
ends_wait (Refused error) = true
ends_wait answer = false

-- what a wait is answered at once
abbrev pub may_wait : Answer → Bool
may_wait Parked = true
may_wait answer = ends_wait answer

-- what a resumption is answered
abbrev pub may_resume : Answer → Bool
may_resume Still = true
may_resume answer = ends_parked answer

-- what an event may be answered; nothing is said here of a tick and of calls that don't wait
abbrev pub may_answer : Event → Answer → Bool
may_answer (CallOf pid (EpollWait epfd most timeout)) answer = may_wait answer
may_answer (CallOf pid call) answer = true
may_answer Resume answer = may_resume answer
may_answer (Tick k) answer = true

-- a caller whose next resumption would be in vain
abbrev pub must_wait : State → ℕ → Bool
must_wait s c = is_parked s c && not (is_marked s c)
