-- What a line of a script asks for: a table of its operations, each with its keys.
use Rattle.std.specs.Prelude.{Err, List, None, Ok, Option, Result, Some, [], bytes_eq, codes, if◌then◌else◌, ok_or, ℕ, ◌++◌, ◌∷◌}
use Rattle.std.specs.Option.{option_map}
use Rattle.std.specs.Result.{result_err, result_ok}
use Rattle.std.specs.Str.{is_utf8}
use Rattle.serde_json.specs.Data.{Data}
use Rattle.serde_json.specs.Find.{as_object, get}
use Rattle.serde_json.specs.Read.{read as json}
use Rattle.ep_base.specs.declared.call.Call.{Call}
use Rattle.ep_base.specs.declared.call.Event.{Event}
use Rattle.ep_base.specs.declared.call.Event.TheVariants.{Call as CallOf, Resume, Tick}
use Rattle.ep_base.specs.declared.ids.CallerId.{CallerId}
use Rattle.ep_text.specs.declared.key.Key.{Key}
use Rattle.ep_text.specs.declared.key.Key.TheVariants as key
use Rattle.ep_text.specs.declared.op.CallOp.{CallOp}
use Rattle.ep_text.specs.declared.op.CallOp.TheVariants as op
use Rattle.ep_text.specs.declared.op.Op.{Op}
use Rattle.ep_text.specs.declared.op.Op.TheVariants as any
use Rattle.ep_text.specs.declared.reason.Reason.{Reason}
use Rattle.ep_text.specs.declared.reason.Reason.TheVariants.{NoObject, UnknownOp}
use Rattle.ep_text.specs.Calls.{close_call, ctl_call, dup2_call, dup_call, epoll_call, eventfd_call}
use Rattle.ep_text.specs.Calls.{exec_call, exit_call, fork_call, gettime_call, pipe_call, plain_call}
use Rattle.ep_text.specs.Calls.{read_call, settime_call, socketpair_call, timerfd_call}
use Rattle.ep_text.specs.Calls.{wait_call, write_call}
use Rattle.ep_text.specs.SocketCalls.{accept_call, bind_call, connect_call, listen_call, peek_call, peername_call}
use Rattle.ep_text.specs.SocketCalls.{shutdown_call, sockerr_call, socket_call, sockname_call}
use Rattle.ep_text.specs.declared.line.Line.{Line}
use Rattle.ep_text.specs.declared.line.Line.TheVariants.{Bad, Command as LineCommand, Header}
use Rattle.ep_version.specs.declared.version.Version.{Version}
use Rattle.ep_text.specs.Key.{key_name}
use Rattle.ep_text.specs.Keys.{has_only, meant, optional, required, text, unsigned32, unsigned64, ◌>>=◌}
use Rattle.ep_text.specs.Reason.{unread}
use Rattle.ep_text.specs.Header.{without_op}
use Rattle.ep_version.specs.Version.{event_in}

-- which one it is, its name, its keys beside `op` and `by`, and the event that it asks for
--
-- The keys are in the order in which the one is looked for that an unknown key may mean.
pub record Operation : Type 0 where
  pub op : Op
  pub name : List ℕ
  pub keys : List Key
  pub asks : Data → Result Event Reason

-- ---- the calls

-- a call, of the process that `pid` names
abbrev pub by_process : (Data → Result Call Reason) → Data → Result Event Reason
by_process meaning d = do
  pid ← optional unsigned64 1 key.Pid d
  call ← meaning d
  Ok (CallOf (record { 0 = pid }) call)

abbrev pub call_operation : CallOp → List ℕ → List Key → (Data → Result Call Reason) → Operation
call_operation o name keys meaning = record { op = any.Call o; name = name; keys = keys ++ key.Pid ∷ []; asks = by_process meaning }

abbrev pub pipe_operation : Operation
pipe_operation = call_operation op.Pipe (codes "pipe") (key.Cloexec ∷ []) pipe_call

abbrev pub socketpair_operation : Operation
socketpair_operation = call_operation op.SocketPair (codes "socketpair") (key.Cloexec ∷ []) socketpair_call

abbrev pub plain_operation : Operation
plain_operation = call_operation op.Plain (codes "plain") (key.Cloexec ∷ []) plain_call

abbrev pub epoll_operation : Operation
epoll_operation = call_operation op.Epoll (codes "epoll") (key.Cloexec ∷ []) epoll_call

abbrev pub eventfd_operation : Operation
eventfd_operation = call_operation op.EventFd (codes "eventfd") (key.Init ∷ key.Sem ∷ key.Cloexec ∷ []) eventfd_call

abbrev pub timerfd_operation : Operation
timerfd_operation = call_operation op.TimerFd (codes "timerfd") (key.Clock ∷ key.Cloexec ∷ []) timerfd_call

abbrev pub ctl_operation : Operation
ctl_operation = call_operation op.Ctl (codes "ctl") (key.Ep ∷ key.Fd ∷ key.Act ∷ key.Mask ∷ key.Data ∷ []) ctl_call

abbrev pub wait_operation : Operation
wait_operation = call_operation op.Wait (codes "wait") (key.Ep ∷ key.Max ∷ key.Timeout ∷ []) wait_call

abbrev pub read_operation : Operation
read_operation = call_operation op.Read (codes "read") (key.Fd ∷ key.N ∷ []) read_call

abbrev pub write_operation : Operation
write_operation = call_operation op.Write (codes "write") (key.Fd ∷ key.Hex ∷ key.Fill ∷ []) write_call

abbrev pub shutdown_operation : Operation
shutdown_operation = call_operation op.Shutdown (codes "shutdown") (key.Fd ∷ key.How ∷ []) shutdown_call

abbrev pub gettime_operation : Operation
gettime_operation = call_operation op.GetTime (codes "gettime") (key.Fd ∷ []) gettime_call

abbrev pub settime_operation : Operation
settime_operation = call_operation op.SetTime (codes "settime") (key.Fd ∷ key.Value ∷ key.Interval ∷ key.Abs ∷ []) settime_call

abbrev pub dup_operation : Operation
dup_operation = call_operation op.Dup (codes "dup") (key.Fd ∷ []) dup_call

abbrev pub dup2_operation : Operation
dup2_operation = call_operation op.Dup2 (codes "dup2") (key.Fd ∷ key.To ∷ []) dup2_call

abbrev pub close_operation : Operation
close_operation = call_operation op.Close (codes "close") (key.Fd ∷ []) close_call

abbrev pub fork_operation : Operation
fork_operation = call_operation op.Fork (codes "fork") [] fork_call

abbrev pub exec_operation : Operation
exec_operation = call_operation op.Exec (codes "exec") [] exec_call

abbrev pub exit_operation : Operation
exit_operation = call_operation op.Exit (codes "exit") [] exit_call

abbrev pub socket_operation : Operation
socket_operation = call_operation op.Socket (codes "socket") (key.Family ∷ key.Cloexec ∷ []) socket_call

abbrev pub bind_operation : Operation
bind_operation = call_operation op.Bind (codes "bind") (key.Fd ∷ key.Space ∷ key.Name ∷ []) bind_call

abbrev pub listen_operation : Operation
listen_operation = call_operation op.Listen (codes "listen") (key.Fd ∷ key.Backlog ∷ []) listen_call

abbrev pub connect_operation : Operation
connect_operation = call_operation op.Connect (codes "connect") (key.Fd ∷ key.Space ∷ key.Name ∷ []) connect_call

abbrev pub accept_operation : Operation
accept_operation = call_operation op.Accept (codes "accept") (key.Fd ∷ key.Cloexec ∷ []) accept_call

abbrev pub peek_operation : Operation
peek_operation = call_operation op.Peek (codes "peek") (key.Fd ∷ key.N ∷ []) peek_call

abbrev pub sockname_operation : Operation
sockname_operation = call_operation op.SockName (codes "sockname") (key.Fd ∷ []) sockname_call

abbrev pub peername_operation : Operation
peername_operation = call_operation op.PeerName (codes "peername") (key.Fd ∷ []) peername_call

abbrev pub sockerr_operation : Operation
sockerr_operation = call_operation op.SockErr (codes "sockerr") (key.Fd ∷ []) sockerr_call

abbrev pub call_operations : List Operation
call_operations =
    pipe_operation ∷ socketpair_operation ∷ plain_operation ∷ epoll_operation ∷ eventfd_operation ∷ timerfd_operation ∷
    ctl_operation ∷ wait_operation ∷ read_operation ∷ write_operation ∷ shutdown_operation ∷ gettime_operation ∷ settime_operation ∷
    dup_operation ∷ dup2_operation ∷ close_operation ∷ fork_operation ∷ exec_operation ∷ exit_operation ∷
    socket_operation ∷ bind_operation ∷ listen_operation ∷ connect_operation ∷ accept_operation ∷ peek_operation ∷
    sockname_operation ∷ peername_operation ∷ sockerr_operation ∷ []

-- ---- what is no call

abbrev pub tick_event : Data → Result Event Reason
tick_event d = do
  n ← required unsigned64 key.N d
  Ok (Tick n)

-- it is of no process
abbrev pub tick_operation : Operation
tick_operation = record { op = any.Tick; name = codes "tick"; keys = key.N ∷ []; asks = tick_event }

abbrev pub resume_event : Data → Result Event Reason
resume_event d = Ok Resume

-- it is of the process in which its caller is parked, so no line names one
abbrev pub resume_operation : Operation
resume_operation = record { op = any.Resume; name = codes "resume"; keys = []; asks = resume_event }

abbrev pub operations : List Operation
operations = tick_operation ∷ resume_operation ∷ call_operations

abbrev pub named : List Operation → List ℕ → Option Operation
named [] name = None
named (o ∷ os) name = if bytes_eq name o.name then Some o else named os name

-- ---- a line

abbrev pub Command : Type 0
Command = CallerId × Event

abbrev pub asked : Operation → Data → Result Command Reason
asked operation d = do
  caller ← optional unsigned32 0 key.By d
  event ← operation.asks d
  Ok (record { 0 = caller }, event)

-- of the value of `op`
abbrev pub operation_in : Data → Result Operation Reason
operation_in d = do
  name ← meant text key.Op d
  ok_or (named operations name) (UnknownOp name)

unfoldable pub command : Data → Result Command Reason
command d = do
  members ← ok_or (as_object d) NoObject
  op ← ok_or (get (key_name key.Op) d) (without_op d)
  operation ← operation_in op
  known ← has_only operation.op (key.Op ∷ key.By ∷ operation.keys) members
  asked operation d

abbrev pub reading : List ℕ → Result Command Reason
reading line = if is_utf8 line then ok_or (json line) (unread line) >>= command else Err (unread line)

-- who asks for what, with the numbers of the line, if it is a command
abbrev pub as_written : List ℕ → Option Command
as_written line = result_ok (reading line)

abbrev pub command_in : Version → Command → Command
command_in version c = (c.0, event_in version c.1)

-- who asks for what in this version, if the line is a command
abbrev pub event : Version → List ℕ → Option Command
event version line = option_map (command_in version) (as_written line)

-- why it is none, if it is none
abbrev pub reason : List ℕ → Option Reason
reason line = result_err (reading line)

-- ---- what a line is that may be a header: the version that it names, and who asks for what

abbrev pub header_of : Line → Option Version
header_of (Header version) = Some version
header_of (LineCommand caller event) = None
header_of Bad = None

abbrev pub command_of : Line → Option Command
command_of (Header version) = None
command_of (LineCommand caller event) = Some (caller, event)
command_of Bad = None
