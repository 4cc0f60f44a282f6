-- What an event does to timers and the clock before the dead go, and the moments of timers meanwhile.
use Rattle.std.specs.Prelude.{◌≡◌, ◌≤◌, ◌<◌, ◌^◌, ◌⊎◌, Bool, IfSome, IsSome, None, Option, false, is_some, pos, true, ℕ}
use Rattle.ep_alarms.specs.Alarms.{AreSet, AreSetBut}
use Rattle.ep_alarms.specs.Called.{IsCalled}
use Rattle.ep_alarms.specs.Timers.{timer_under}
use Rattle.ep_base.specs.declared.answer.Answer.{Answer}
use Rattle.ep_base.specs.declared.answer.Answer.TheVariants.{Num}
use Rattle.ep_base.specs.declared.call.Call.{Call}
use Rattle.ep_base.specs.declared.call.Call.TheVariants.{EpollCtl, EpollWait}
use Rattle.ep_base.specs.declared.call.Event.{Event}
use Rattle.ep_base.specs.declared.call.Event.TheVariants.{Call as CallOf, Tick}
use Rattle.ep_base.specs.declared.errno.Errno.{Errno}
use Rattle.ep_base.specs.declared.ids.DescId.{DescId}
use Rattle.ep_calls.specs.Clock.{ClockStays}
use Rattle.ep_calls.specs.FileCall.{CallsFiles}
use Rattle.ep_calls.specs.Parts.{Parts}
use Rattle.ep_calls.specs.TableCall.{MakesTimer}
use Rattle.ep_calls.specs.declared.outcome.Outcome.{Outcome}
use Rattle.ep_calls.specs.declared.raising.Raising.{Raising}
use Rattle.ep_calls.specs.declared.raising.Raising.TheVariants.{Clock}
use Rattle.ep_due.specs.DueMap.{Moments, moment_of}
use Rattle.ep_law.specs.Laws.{HaveOwnEnds}
use Rattle.ep_machine.specs.Files.{table_of, under}
use Rattle.ep_table.specs.Value.{KeepsKeys, Refuses, Seen, Sound as SoundTables, number_under}

-- the descriptions and objects stay, and so does the clock
pub record LeavesFiles (raising : Raising) (p q : Parts) : Type 0 where
  pub files : q.tables.files ≡ p.tables.files
  pub clock : ClockStays raising p.clock q.clock

-- what a call of a process does to the tables; one on registrations, or a wait, leaves the files
abbrev pub CallsTables : ℕ → Call → Answer → Parts → Parts → Type 0
CallsTables pid (EpollCtl epfd op fd mask tag) answer p q = q.tables.files ≡ p.tables.files
CallsTables pid (EpollWait epfd most timeout) answer p q = q.tables.files ≡ p.tables.files
CallsTables pid call answer p q = CallsFiles pid call answer p q

-- refused by an error number
abbrev pub IsRefused : Answer → Seen → Seen → Type 0
IsRefused answer old new = (e : Errno) × Refuses e answer old new

-- what an event does to them: a call is refused, or its process is there
abbrev pub TouchesTables : Event → Answer → Parts → Parts → Type 0
TouchesTables (CallOf pid call) answer p q =
    IsRefused answer p.tables q.tables ⊎ ((is_some (table_of p.tables.files pid.0) ≡ true) × CallsTables pid.0 call answer p q)
TouchesTables event answer p q = q.tables.files ≡ p.tables.files

-- the clock goes on, and what that raises is raised since the moment before; or it stays
abbrev pub GoesOn : Raising → ℕ → ℕ → Type 0
GoesOn (Clock since) before now = (since ≡ before) × (before ≤ now)
GoesOn raising before now = now ≡ before

-- by a tick alone
abbrev pub MovesClock : Event → Raising → ℕ → ℕ → Type 0
MovesClock (Tick n) raising before now = GoesOn raising before now
MovesClock event raising before now = ClockStays raising before now

-- once the clock went on: the timers have the moments that they had before
abbrev pub AreSetSince : Raising → Seen → ℕ → Moments → Type 0
AreSetSince (Clock since) v now a = (since ≤ now) × AreSet v since a
AreSetSince raising v now a = AreSet v now a

-- the event may create a timer
abbrev pub MayCreate : Event → Type 0
MayCreate (CallOf pid call) = MakesTimer call
MayCreate event = ⊥

-- the timers have the moments that they had before an event, which creates none without room for it; what was found
-- then is the description on whose object the event is a call
pub record WereSet (event : Event) (found : Option DescId) (outcome : Outcome) (has_room : Bool) (q : Parts) (a : Moments) : Type 0 where
  pub before : Parts
  pub sound : SoundTables before.tables
  pub ends : HaveOwnEnds before.tables.files
  pub set : AreSet before.tables before.clock a
  pub tables : TouchesTables event outcome.answer before q
  pub clock : MovesClock event outcome.raising before.clock q.clock
  pub keys : KeepsKeys before.tables q.tables
  pub left : has_room ≡ false → MayCreate event → q.tables ≡ before.tables
  pub called : IsCalled before.tables event found
  pub live : IfSome found (λ desc. IsSome (number_under before.tables desc))

-- a descriptor names a timer that isn't among them, and each other one has its moment
pub record IsCreated (q : Parts) (pid n : ℕ) (a : Moments) : Type 0 where
  pub small : n < 2 ^ 31
  pub there : IsSome (under q.tables.files pid (pos n))
  pub timer : (desc : DescId) → number_under q.tables desc ≡ under q.tables.files pid (pos n) → IsSome (timer_under q.tables desc.0)
  pub none : (desc : DescId) → number_under q.tables desc ≡ under q.tables.files pid (pos n) → moment_of a desc.0 ≡ None
  pub others : (desc : DescId) → number_under q.tables desc ≡ under q.tables.files pid (pos n) → AreSetBut q.tables q.clock desc.0 a

-- what timerfd_create with an answer leaves of them
abbrev pub CreatesTimer : Answer → Parts → ℕ → Moments → Type 0
CreatesTimer (Num n) q pid a = IsCreated q pid n a
CreatesTimer answer q pid a = AreSet q.tables q.clock a
