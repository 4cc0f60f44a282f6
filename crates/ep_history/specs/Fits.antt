-- The numbers of a record are those that its types can hold.
use Rattle.std.specs.Int.{w32, w64}
use Rattle.std.specs.List.{slice_index}
use Rattle.std.specs.Prelude.{All, FitsSigned, List, None, Some, length, ⊤, ◌<◌, ◌^◌, ℕ}
use Rattle.hex.specs.Hex.{IsBytes}
use Rattle.ep_base.specs.declared.answer.Answer.{Answer}
use Rattle.ep_base.specs.declared.answer.Answer.TheVariants.{Bytes, Connecting, Done, Events, Failed, Named, Num, Parked, Refused, Still, Time, Two}
use Rattle.ep_base.specs.declared.answer.Report.{Report}
use Rattle.ep_base.specs.declared.call.Call.{Call}
use Rattle.ep_base.specs.declared.call.Call.TheVariants.{Accept, Bind, Close, Connect, Dup, Dup2, EpollCreate, EpollCtl, EpollWait, EventFd, Exec, Exit, Fork, GetTime, Listen, Peek, Pipe, Plain, Read, SetTime, Shutdown, Socket, SocketName, SocketPair, TakeError, TimerFd, Write}
use Rattle.ep_base.specs.declared.call.Event.{Event}
use Rattle.ep_base.specs.declared.call.Event.TheVariants.{Call as CallOf, Resume, Tick}
use Rattle.ep_base.specs.declared.ids.Fd.{Fd}
use Rattle.ep_base.specs.declared.record.Record.{Record}

-- each is below 2 ^ 64
abbrev pub AreLongs : List ℕ → Type 0
AreLongs ns = (i : ℕ) → slice_index ns i < 2 ^ 64

abbrev pub FdFits : Fd → Type 0
FdFits fd = FitsSigned w32 fd.0

abbrev pub CallFits : Call → Type 0
CallFits (Pipe cloexec) = ⊤
CallFits (SocketPair cloexec) = ⊤
CallFits (Plain cloexec) = ⊤
CallFits (EpollCreate cloexec) = ⊤
CallFits (EventFd init semaphore cloexec) = init < 2 ^ 32
CallFits (TimerFd clock cloexec) = FitsSigned w32 clock
CallFits (EpollCtl epfd op fd mask tag) = FdFits epfd × FitsSigned w32 op × FdFits fd × (mask.0 < 2 ^ 32) × (tag < 2 ^ 64)
CallFits (EpollWait epfd max timeout) = FdFits epfd × FitsSigned w32 max × FitsSigned w64 timeout
CallFits (Read fd n) = FdFits fd × (n < 2 ^ 32)
CallFits (Write fd bytes) = FdFits fd × IsBytes bytes × (length bytes < 2 ^ 64)
CallFits (Shutdown fd how) = FdFits fd
CallFits (Socket family cloexec) = ⊤
CallFits (Peek fd n) = FdFits fd × (n < 2 ^ 32)
CallFits (TakeError fd) = FdFits fd
CallFits (SocketName fd peer) = FdFits fd
CallFits (Bind fd name) = FdFits fd × (name.number < 2 ^ 32)
CallFits (Listen fd backlog) = FdFits fd × FitsSigned w32 backlog
CallFits (Connect fd name) = FdFits fd × (name.number < 2 ^ 32)
CallFits (Accept fd cloexec) = FdFits fd
CallFits (SetTime fd absolute value interval) = FdFits fd × (value < 2 ^ 64) × (interval < 2 ^ 64)
CallFits (GetTime fd) = FdFits fd
CallFits (Dup fd) = FdFits fd
CallFits (Dup2 fd to) = FdFits fd × FdFits to
CallFits (Close fd) = FdFits fd
CallFits Fork = ⊤
CallFits Exec = ⊤
CallFits Exit = ⊤

abbrev pub EventFits : Event → Type 0
EventFits (CallOf pid call) = (pid.0 < 2 ^ 64) × CallFits call
EventFits Resume = ⊤
EventFits (Tick n) = n < 2 ^ 64

abbrev pub ReportFits : Report → Type 0
ReportFits report = (report.bits.0 < 2 ^ 32) × (report.tag < 2 ^ 64)

abbrev pub AnswerFits : Answer → Type 0
AnswerFits Done = ⊤
AnswerFits (Num n) = n < 2 ^ 64
AnswerFits (Two first second) = FdFits first × FdFits second
AnswerFits (Bytes bytes) = IsBytes bytes
AnswerFits (Events reports) = All ReportFits reports
AnswerFits (Time value interval) = (value < 2 ^ 64) × (interval < 2 ^ 64)
AnswerFits Parked = ⊤
AnswerFits Still = ⊤
AnswerFits Connecting = ⊤
AnswerFits (Failed errno) = ⊤
AnswerFits (Named None) = ⊤
AnswerFits (Named (Some name)) = name.number < 2 ^ 32
AnswerFits (Refused errno) = ⊤

-- of each field
pub record RecordFits (r : Record) : Type 0 where
  pub caller : r.caller.0 < 2 ^ 32
  pub event : EventFits r.event
  pub answer : AnswerFits r.answer
  pub picked : AreLongs r.picked
