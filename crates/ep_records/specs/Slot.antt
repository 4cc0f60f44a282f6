-- The record that a slot is.
use Rattle.std.specs.Prelude.{Bool, List, None, Option, Some, [], get_or, if◌then◌else◌, length, pos, replicate, take, ◌+◌, ◌<◌, ◌≤◌, ◌++◌, ◌==◌, ◌∷◌, ℕ, ℤ}
use Rattle.std.specs.Int.{cast_signed, to_le_bytes, w64}
use Rattle.ep_base.specs.declared.answer.Answer.{Answer}
use Rattle.ep_base.specs.declared.answer.Answer.TheVariants as answers
use Rattle.ep_base.specs.declared.answer.Report.{Report}
use Rattle.ep_base.specs.declared.call.Call.{Call}
use Rattle.ep_base.specs.declared.call.Call.TheVariants as calls
use Rattle.ep_base.specs.declared.call.Event.{Event}
use Rattle.ep_base.specs.declared.call.Event.TheVariants as events
use Rattle.ep_base.specs.declared.ids.CallerId.{CallerId}
use Rattle.ep_base.specs.declared.ids.Fd.{Fd}
use Rattle.ep_base.specs.declared.record.Record.{Record}
use Rattle.ep_base.specs.declared.socket.Family.{Family}
use Rattle.ep_base.specs.declared.socket.Family.TheVariants as families
use Rattle.ep_base.specs.declared.socket.How.{How}
use Rattle.ep_base.specs.declared.socket.How.TheVariants as hows
use Rattle.ep_base.specs.declared.socket.Name.{Name}
use Rattle.ep_base.specs.declared.socket.Space.{Space}
use Rattle.ep_base.specs.declared.socket.Space.TheVariants as spaces
use Rattle.ep_records.specs.Lists.{Lists, blank, stretch}
use Rattle.ep_records.specs.declared.slot.Kind.{Kind}
use Rattle.ep_records.specs.declared.slot.Kind.TheVariants as kinds
use Rattle.ep_records.specs.declared.slot.Slot.{Slot}
use Rattle.ep_records.specs.declared.slot.What.{What}
use Rattle.ep_records.specs.declared.slot.What.TheVariants as whats

-- the fields that tell what was asked
pub record Asked : Type 0 where
  pub fd : Fd
  pub count : ℕ
  pub n : ℕ
  pub m : ℤ
  pub x : ℕ
  pub y : ℕ

abbrev pub asked : Slot → Asked
asked s = record { fd = s.fd; count = s.count; n = s.n; m = s.m; x = s.x; y = s.y }

-- the first bytes of two numbers, each of which has its lowest byte first
abbrev pub first_bytes : ℕ → ℕ → ℕ → List ℕ
first_bytes count x y = take count (to_le_bytes w64 x ++ to_le_bytes w64 y)

abbrev pub is_set : ℕ → Bool
is_set flag = flag == 1

-- a direction as shutdown(2) numbers it
abbrev pub how_of : ℕ → How
how_of k = if k == 0 then hows.Read else if k == 1 then hows.Write else hows.Both

abbrev pub family_of : ℕ → Family
family_of k = if k == 0 then families.Tcp else families.Unix

abbrev pub space_of : ℕ → Space
space_of k = if k == 0 then spaces.V4 else if k == 1 then spaces.V6 else spaces.Local

abbrev pub name_of : ℕ → ℕ → Name
name_of space number = record { space = space_of space; number = number }

abbrev pub call_of : Kind → Asked → Call
call_of kinds.Pipe a = calls.Pipe (is_set a.count)
call_of kinds.SocketPair a = calls.SocketPair (is_set a.count)
call_of kinds.EventFd a = calls.EventFd a.n (is_set a.x) (is_set a.count)
call_of kinds.TimerFd a = calls.TimerFd a.m (is_set a.count)
call_of kinds.Socket a = calls.Socket (family_of a.n) (is_set a.count)
call_of kinds.Plain a = calls.Plain (is_set a.count)
call_of kinds.EpollCreate a = calls.EpollCreate (is_set a.count)
call_of kinds.EpollCtl a = calls.EpollCtl a.fd (pos a.count) (record { 0 = a.m }) (record { 0 = a.n }) a.x
call_of kinds.EpollWait a = calls.EpollWait a.fd a.m (cast_signed w64 a.x)
call_of kinds.Read a = calls.Read a.fd a.n
call_of kinds.Write a = calls.Write a.fd (first_bytes a.count a.x a.y)
call_of kinds.Fill a = calls.Write a.fd (replicate a.x a.count)
call_of kinds.Shutdown a = calls.Shutdown a.fd (how_of a.count)
call_of kinds.Peek a = calls.Peek a.fd a.n
call_of kinds.TakeError a = calls.TakeError a.fd
call_of kinds.SocketName a = calls.SocketName a.fd (is_set a.count)
call_of kinds.Bind a = calls.Bind a.fd (name_of a.count a.n)
call_of kinds.Listen a = calls.Listen a.fd a.m
call_of kinds.Connect a = calls.Connect a.fd (name_of a.count a.n)
call_of kinds.Accept a = calls.Accept a.fd (is_set a.count)
call_of kinds.SetTime a = calls.SetTime a.fd (is_set a.count) a.x a.y
call_of kinds.GetTime a = calls.GetTime a.fd
call_of kinds.Dup a = calls.Dup a.fd
call_of kinds.Dup2 a = calls.Dup2 a.fd (record { 0 = a.m })
call_of kinds.Close a = calls.Close a.fd
call_of kinds.Fork a = calls.Fork
call_of kinds.Exec a = calls.Exec
call_of k a = calls.Exit

-- a descriptor and no other number
abbrev pub only_fd : Fd → Asked
only_fd fd = record { fd = fd; count = 0; n = 0; m = pos 0; x = 0; y = 0 }

-- the event that a process, its number and these fields make
abbrev pub event_of : Kind → ℕ → Asked → Event
event_of kinds.Resume pid a = events.Resume
event_of kinds.Tick pid a = events.Tick a.x
event_of k pid a = events.Call (record { 0 = pid }) (call_of k a)

abbrev pub answer_of : What → Slot → Answer
answer_of whats.Done s = answers.Done
answer_of whats.Num s = answers.Num s.z
answer_of whats.Two s = answers.Two s.fd (record { 0 = s.m })
answer_of whats.Bytes s = answers.Bytes (first_bytes s.count s.x s.y)
answer_of whats.NoReports s = answers.Events []
answer_of whats.OneReport s = answers.Events (record { bits = record { 0 = s.n }; tag = s.y } ∷ [])
answer_of whats.Time s = answers.Time s.z s.n
answer_of whats.Parked s = answers.Parked
answer_of whats.Connecting s = answers.Connecting
answer_of whats.Failed s = answers.Failed s.errno
answer_of whats.Unnamed s = answers.Named None
answer_of whats.Named s = answers.Named (Some (name_of s.x s.n))
answer_of whats.Refused s = answers.Refused s.errno
answer_of w s = answers.Still

abbrev pub picked_of : What → Slot → List ℕ
picked_of whats.OneReport s = s.z ∷ []
picked_of w s = []

-- the record of an event that reports nothing
abbrev pub made : CallerId → Event → Answer → Record
made caller event answer = record { caller = caller; event = event; answer = answer; picked = [] }

-- the record of a call that reports nothing
abbrev pub quiet : CallerId → ℕ → Call → Answer → Record
quiet caller pid call answer = made caller (events.Call (record { 0 = pid }) call) answer

-- the record of an event that makes one report
abbrev pub told : CallerId → Event → Report → ℕ → Record
told caller event report number = record { caller = caller; event = event; answer = answers.Events (report ∷ []); picked = number ∷ [] }

abbrev pub event_in : Slot → Event
event_in s = event_of s.kind s.pid (asked s)

-- the record that the fields tell
abbrev pub short_record : Slot → Record
short_record s = record { caller = s.caller; event = event_in s; answer = answer_of s.what s; picked = picked_of s.what s }

abbrev pub if_alone : What → Record → Option Record
if_alone whats.Whole r = None
if_alone whats.WaitReports r = None
if_alone whats.ResumeReports r = None
if_alone whats.LongRead r = None
if_alone whats.LongWrite r = None
if_alone w r = Some r

-- the record of a slot that names nothing beside it
abbrev pub record_in : Slot → Option Record
record_in s = if_alone s.what (short_record s)

-- the record of an event that reports what stands beside the slots
abbrev pub told_beside : Lists → Slot → Event → Record
told_beside b s event =
    record { caller = s.caller; event = event; answer = answers.Events (stretch b.reports s.y s.n); picked = stretch b.numbers s.z s.n }

abbrev pub record_beside : What → Lists → Slot → Record
record_beside whats.WaitReports b s = told_beside b s (event_of kinds.EpollWait s.pid (asked s))
record_beside whats.ResumeReports b s = told_beside b s events.Resume
record_beside whats.LongRead b s = quiet s.caller s.pid (calls.Read s.fd s.n) (answers.Bytes (stretch b.bytes s.x s.y))
record_beside whats.LongWrite b s = quiet s.caller s.pid (calls.Write s.fd (stretch b.bytes s.x s.y)) (answers.Num s.z)
record_beside w b s = get_or b.long s.x blank

abbrev pub or_beside : Lists → Slot → Option Record → Record
or_beside b s (Some one) = one
or_beside b s None = record_beside s.what b s

-- the record of any slot, beside these lists
abbrev pub unpacked : Lists → Slot → Record
unpacked b s = or_beside b s (record_in s)

-- what it names stands in the lists
abbrev pub IsNamed : What → Lists → Slot → Type 0
IsNamed whats.WaitReports b s = (s.y + s.n ≤ length b.reports) × (s.z + s.n ≤ length b.numbers)
IsNamed whats.ResumeReports b s = (s.y + s.n ≤ length b.reports) × (s.z + s.n ≤ length b.numbers)
IsNamed whats.LongRead b s = s.x + s.y ≤ length b.bytes
IsNamed whats.LongWrite b s = s.x + s.y ≤ length b.bytes
IsNamed w b s = s.x < length b.long

abbrev pub IsThere : Lists → Slot → Option Record → Type 0
IsThere b s (Some one) = Unit {0}
IsThere b s None = IsNamed s.what b s

abbrev pub IsWithin : Lists → Slot → Type 0
IsWithin b s = IsThere b s (record_in s)

-- it writes no list of bytes
abbrev pub IsListless : Kind → Type 0
IsListless kinds.Write = ⊥
IsListless k = Unit {0}

-- it is a call that makes files
abbrev pub Makes : Kind → Type 0
Makes kinds.Pipe = Unit {0}
Makes kinds.SocketPair = Unit {0}
Makes kinds.Socket = Unit {0}
Makes kinds.EventFd = Unit {0}
Makes kinds.TimerFd = Unit {0}
Makes kinds.Plain = Unit {0}
Makes kinds.EpollCreate = Unit {0}
Makes k = ⊥

-- it is a call on an object that writes no bytes
abbrev pub Acts : Kind → Type 0
Acts kinds.EpollCtl = Unit {0}
Acts kinds.EpollWait = Unit {0}
Acts kinds.Read = Unit {0}
Acts kinds.Shutdown = Unit {0}
Acts kinds.SetTime = Unit {0}
Acts kinds.GetTime = Unit {0}
Acts k = ⊥

-- it is a call that only a socket answers
abbrev pub AsksSocket : Kind → Type 0
AsksSocket kinds.Peek = Unit {0}
AsksSocket kinds.TakeError = Unit {0}
AsksSocket kinds.SocketName = Unit {0}
AsksSocket kinds.Bind = Unit {0}
AsksSocket kinds.Listen = Unit {0}
AsksSocket kinds.Connect = Unit {0}
AsksSocket kinds.Accept = Unit {0}
AsksSocket k = ⊥

-- a call on an instance
abbrev pub IsOnInstance : Call → Type 0
IsOnInstance (calls.EpollCtl epfd op fd mask tag) = Unit {0}
IsOnInstance (calls.EpollWait epfd max timeout) = Unit {0}
IsOnInstance call = ⊥
