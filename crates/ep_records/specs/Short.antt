-- Which records take 48 bytes.
use Rattle.std.specs.Prelude.{List, [], length, pos, ◌<◌, ◌^◌, ◌≡◌, ◌≤◌, ◌≤ℤ◌, ℕ}
use Rattle.ep_base.specs.declared.answer.Answer.{Answer}
use Rattle.ep_base.specs.declared.answer.Answer.TheVariants as answers
use Rattle.ep_base.specs.declared.call.Call.{Call}
use Rattle.ep_base.specs.declared.call.Call.TheVariants as calls
use Rattle.ep_base.specs.declared.call.Event.{Event}
use Rattle.ep_base.specs.declared.call.Event.TheVariants as events

-- it is one number at most
abbrev pub IsBrief : Answer → Type 0
IsBrief (answers.Two first second) = ⊥
IsBrief (answers.Bytes bytes) = ⊥
IsBrief (answers.Events reports) = reports ≡ []
IsBrief (answers.Time value interval) = ⊥
IsBrief answers.Connecting = ⊥
IsBrief (answers.Failed errno) = ⊥
IsBrief (answers.Named name) = ⊥
IsBrief answer = Unit {0}

abbrev pub IsShortPair : Answer → Type 0
IsShortPair (answers.Two first second) = Unit {0}
IsShortPair answer = IsBrief answer

abbrev pub IsShortRead : Answer → Type 0
IsShortRead (answers.Bytes bytes) = length bytes ≤ 16
IsShortRead answer = IsBrief answer

-- the interval of a setting is below 2^32
abbrev pub IsShortSetting : Answer → Type 0
IsShortSetting (answers.Time value interval) = interval < 2 ^ 32
IsShortSetting answer = IsBrief answer

abbrev pub IsShortName : Answer → Type 0
IsShortName (answers.Named name) = Unit {0}
IsShortName answer = IsBrief answer

-- a call that reports nothing
abbrev pub IsShortCall : Call → Answer → Type 0
IsShortCall (calls.Pipe cloexec) answer = IsShortPair answer
IsShortCall (calls.SocketPair cloexec) answer = IsShortPair answer
IsShortCall (calls.EpollCtl epfd op fd mask tag) answer = (pos 0 ≤ℤ op) × (op ≤ℤ pos 255) × IsBrief answer
IsShortCall (calls.Read fd n) answer = IsShortRead answer
IsShortCall (calls.Peek fd n) answer = IsShortRead answer
IsShortCall (calls.SocketName fd peer) answer = IsShortName answer
IsShortCall (calls.Write fd bytes) answer = (length bytes ≤ 16) × IsBrief answer
IsShortCall (calls.SetTime fd absolute value interval) answer = IsShortSetting answer
IsShortCall (calls.GetTime fd) answer = IsShortSetting answer
IsShortCall call answer = IsBrief answer

-- an event that reports nothing
abbrev pub IsShortEvent : Event → Answer → Type 0
IsShortEvent (events.Call pid call) answer = (pid.0 < 2 ^ 32) × IsShortCall call answer
IsShortEvent event answer = IsBrief answer

-- an answer that few calls have takes as much as one without a number
abbrev pub as_still : Answer → Answer
as_still answers.Connecting = answers.Still
as_still (answers.Failed errno) = answers.Still
as_still answer = answer

abbrev pub IsSeldom : Answer → Type 0
IsSeldom answers.Connecting = Unit {0}
IsSeldom (answers.Failed errno) = Unit {0}
IsSeldom answer = ⊥

-- an event that reports nothing, whatever it is answered
abbrev pub IsSilentShort : Event → Answer → Type 0
IsSilentShort event answer = IsShortEvent event (as_still answer)

-- a write of a process, whose bytes stand in the 48 bytes of its record
abbrev pub WritesFew : ℕ → Call → Type 0
WritesFew p (calls.Write fd bytes) = (p < 2 ^ 32) × (length bytes ≤ 16)
WritesFew p call = ⊥

abbrev pub IsShortWrite : Event → Type 0
IsShortWrite (events.Call pid call) = WritesFew pid.0 call
IsShortWrite event = ⊥

-- a read of a process, whose record has room for 16 bytes that it gives
abbrev pub Reads : ℕ → Call → Type 0
Reads p (calls.Read fd n) = p < 2 ^ 32
Reads p call = ⊥

abbrev pub IsShortReader : Event → Type 0
IsShortReader (events.Call pid call) = Reads pid.0 call
IsShortReader event = ⊥

-- a call that reports
abbrev pub IsWait : Call → Type 0
IsWait (calls.EpollWait epfd max timeout) = Unit {0}
IsWait call = ⊥

-- an event whose one report takes no more
abbrev pub IsShortReporter : Event → Type 0
IsShortReporter (events.Call pid call) = (pid.0 < 2 ^ 32) × IsWait call
IsShortReporter events.Resume = Unit {0}
IsShortReporter event = ⊥

-- an event that makes one report
abbrev pub IsToldShort : Event → Answer → List ℕ → Type 0
IsToldShort event (answers.Events reports) picked = (length reports ≡ 1) × (length picked ≡ 1) × IsShortReporter event
IsToldShort event answer picked = ⊥
