-- The calls, each with what its keys mean.
use Rattle.std.specs.Prelude.{Bool, Ok, Result}
use Rattle.serde_json.specs.Data.{Data}
use Rattle.ep_base.specs.declared.call.Call.{Call}
use Rattle.ep_base.specs.declared.call.Call.TheVariants.{Close, Dup, Dup2, EpollCreate, EpollCtl, EpollWait}
use Rattle.ep_base.specs.declared.call.Call.TheVariants.{EventFd, Exec, Exit, Fork, GetTime, Pipe, Plain}
use Rattle.ep_base.specs.declared.call.Call.TheVariants.{Read, SetTime, SocketPair, TimerFd, Write}
use Rattle.ep_base.specs.declared.ids.Fd.{Fd}
use Rattle.ep_text.specs.declared.key.Key.TheVariants as key
use Rattle.ep_text.specs.declared.reason.Reason.{Reason}
use Rattle.ep_text.specs.Bytes.{bytes_in}
use Rattle.ep_text.specs.Keys.{flag, optional, required, signed32, signed64, unsigned32, unsigned64, ◌>>=◌}
use Rattle.ep_text.specs.Mask.{mask, operation}

-- what only `cloexec` says more of
abbrev pub created : (Bool → Call) → Data → Result Call Reason
created make d = do
  cloexec ← flag key.Cloexec d
  Ok (make cloexec)

abbrev pub pipe_call : Data → Result Call Reason
pipe_call = created (λ cloexec. Pipe cloexec)

abbrev pub socketpair_call : Data → Result Call Reason
socketpair_call = created (λ cloexec. SocketPair cloexec)

abbrev pub plain_call : Data → Result Call Reason
plain_call = created (λ cloexec. Plain cloexec)

abbrev pub epoll_call : Data → Result Call Reason
epoll_call = created (λ cloexec. EpollCreate cloexec)

abbrev pub eventfd_call : Data → Result Call Reason
eventfd_call d = do
  init ← required unsigned32 key.Init d
  semaphore ← flag key.Sem d
  cloexec ← flag key.Cloexec d
  Ok (EventFd init semaphore cloexec)

abbrev pub timerfd_call : Data → Result Call Reason
timerfd_call d = do
  clock ← required signed32 key.Clock d
  cloexec ← flag key.Cloexec d
  Ok (TimerFd clock cloexec)

abbrev pub ctl_call : Data → Result Call Reason
ctl_call d = do
  epfd ← required signed32 key.Ep d
  fd ← required signed32 key.Fd d
  op ← required operation key.Act d
  bits ← optional mask 0 key.Mask d
  tag ← optional unsigned64 0 key.Data d
  Ok (EpollCtl (record { 0 = epfd }) op (record { 0 = fd }) (record { 0 = bits }) tag)

abbrev pub wait_call : Data → Result Call Reason
wait_call d = do
  epfd ← required signed32 key.Ep d
  max ← required signed32 key.Max d
  timeout ← required signed64 key.Timeout d
  Ok (EpollWait (record { 0 = epfd }) max timeout)

abbrev pub read_call : Data → Result Call Reason
read_call d = do
  fd ← required signed32 key.Fd d
  n ← required unsigned32 key.N d
  Ok (Read (record { 0 = fd }) n)

abbrev pub write_call : Data → Result Call Reason
write_call d = do
  fd ← required signed32 key.Fd d
  bytes ← bytes_in d
  Ok (Write (record { 0 = fd }) bytes)

-- what a descriptor alone says all of
abbrev pub at_descriptor : (Fd → Call) → Data → Result Call Reason
at_descriptor make d = do
  fd ← required signed32 key.Fd d
  Ok (make (record { 0 = fd }))

abbrev pub gettime_call : Data → Result Call Reason
gettime_call = at_descriptor (λ fd. GetTime fd)

abbrev pub settime_call : Data → Result Call Reason
settime_call d = do
  fd ← required signed32 key.Fd d
  value ← required unsigned64 key.Value d
  interval ← optional unsigned64 0 key.Interval d
  absolute ← flag key.Abs d
  Ok (SetTime (record { 0 = fd }) absolute value interval)

abbrev pub dup_call : Data → Result Call Reason
dup_call = at_descriptor (λ fd. Dup fd)

abbrev pub dup2_call : Data → Result Call Reason
dup2_call d = do
  fd ← required signed32 key.Fd d
  to ← required signed32 key.To d
  Ok (Dup2 (record { 0 = fd }) (record { 0 = to }))

abbrev pub close_call : Data → Result Call Reason
close_call = at_descriptor (λ fd. Close fd)

abbrev pub fork_call : Data → Result Call Reason
fork_call d = Ok Fork

abbrev pub exec_call : Data → Result Call Reason
exec_call d = Ok Exec

abbrev pub exit_call : Data → Result Call Reason
exit_call d = Ok Exit
