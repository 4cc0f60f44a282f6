-- The operations that the code names, as lines of the table.
use Rattle.std.specs.Prelude.{List, Result, [], codes, ℕ, ◌∷◌}
use Rattle.serde_json.specs.Data.{Data}
use Rattle.ep_base.specs.declared.call.Call.{Call}
use Rattle.ep_text.specs.declared.key.Key.{Key}
use Rattle.ep_text.specs.declared.key.Key.TheVariants as key
use Rattle.ep_text.specs.declared.op.CallOp.{CallOp}
use Rattle.ep_text.specs.declared.op.CallOp.TheVariants as op
use Rattle.ep_text.specs.declared.op.Op.{Op}
use Rattle.ep_text.specs.declared.op.Op.TheVariants as any
use Rattle.ep_text.specs.declared.reason.Reason.{Reason}
use Rattle.ep_text.specs.Calls.{close_call, ctl_call, dup2_call, dup_call, epoll_call, eventfd_call}
use Rattle.ep_text.specs.Calls.{exec_call, exit_call, fork_call, gettime_call, pipe_call, plain_call}
use Rattle.ep_text.specs.Calls.{read_call, settime_call, socketpair_call, timerfd_call}
use Rattle.ep_text.specs.Calls.{wait_call, write_call}
use Rattle.ep_text.specs.SocketCalls.{accept_call, bind_call, connect_call, listen_call, peek_call, peername_call}
use Rattle.ep_text.specs.SocketCalls.{shutdown_call, sockerr_call, socket_call, sockname_call}
use Rattle.ep_text.specs.Event.{Operation, call_operation, resume_operation, tick_operation}

abbrev pub name_of : CallOp → List ℕ
name_of op.Pipe = codes "pipe"
name_of op.SocketPair = codes "socketpair"
name_of op.Plain = codes "plain"
name_of op.Epoll = codes "epoll"
name_of op.EventFd = codes "eventfd"
name_of op.TimerFd = codes "timerfd"
name_of op.Ctl = codes "ctl"
name_of op.Wait = codes "wait"
name_of op.Read = codes "read"
name_of op.Write = codes "write"
name_of op.Shutdown = codes "shutdown"
name_of op.GetTime = codes "gettime"
name_of op.SetTime = codes "settime"
name_of op.Dup = codes "dup"
name_of op.Dup2 = codes "dup2"
name_of op.Close = codes "close"
name_of op.Fork = codes "fork"
name_of op.Exec = codes "exec"
name_of op.Exit = codes "exit"
name_of op.Socket = codes "socket"
name_of op.Bind = codes "bind"
name_of op.Listen = codes "listen"
name_of op.Connect = codes "connect"
name_of op.Accept = codes "accept"
name_of op.Peek = codes "peek"
name_of op.SockName = codes "sockname"
name_of op.PeerName = codes "peername"
name_of op.SockErr = codes "sockerr"

abbrev pub keys_of : CallOp → List Key
keys_of op.Pipe = key.Cloexec ∷ []
keys_of op.SocketPair = key.Cloexec ∷ []
keys_of op.Plain = key.Cloexec ∷ []
keys_of op.Epoll = key.Cloexec ∷ []
keys_of op.EventFd = key.Init ∷ key.Sem ∷ key.Cloexec ∷ []
keys_of op.TimerFd = key.Clock ∷ key.Cloexec ∷ []
keys_of op.Ctl = key.Ep ∷ key.Fd ∷ key.Act ∷ key.Mask ∷ key.Data ∷ []
keys_of op.Wait = key.Ep ∷ key.Max ∷ key.Timeout ∷ []
keys_of op.Read = key.Fd ∷ key.N ∷ []
keys_of op.Write = key.Fd ∷ key.Hex ∷ key.Fill ∷ []
keys_of op.Shutdown = key.Fd ∷ key.How ∷ []
keys_of op.GetTime = key.Fd ∷ []
keys_of op.SetTime = key.Fd ∷ key.Value ∷ key.Interval ∷ key.Abs ∷ []
keys_of op.Dup = key.Fd ∷ []
keys_of op.Dup2 = key.Fd ∷ key.To ∷ []
keys_of op.Close = key.Fd ∷ []
keys_of op.Fork = []
keys_of op.Exec = []
keys_of op.Exit = []
keys_of op.Socket = key.Family ∷ key.Cloexec ∷ []
keys_of op.Bind = key.Fd ∷ key.Space ∷ key.Name ∷ []
keys_of op.Listen = key.Fd ∷ key.Backlog ∷ []
keys_of op.Connect = key.Fd ∷ key.Space ∷ key.Name ∷ []
keys_of op.Accept = key.Fd ∷ key.Cloexec ∷ []
keys_of op.Peek = key.Fd ∷ key.N ∷ []
keys_of op.SockName = key.Fd ∷ []
keys_of op.PeerName = key.Fd ∷ []
keys_of op.SockErr = key.Fd ∷ []

abbrev pub call_of : CallOp → Data → Result Call Reason
call_of op.Pipe = pipe_call
call_of op.SocketPair = socketpair_call
call_of op.Plain = plain_call
call_of op.Epoll = epoll_call
call_of op.EventFd = eventfd_call
call_of op.TimerFd = timerfd_call
call_of op.Ctl = ctl_call
call_of op.Wait = wait_call
call_of op.Read = read_call
call_of op.Write = write_call
call_of op.Shutdown = shutdown_call
call_of op.GetTime = gettime_call
call_of op.SetTime = settime_call
call_of op.Dup = dup_call
call_of op.Dup2 = dup2_call
call_of op.Close = close_call
call_of op.Fork = fork_call
call_of op.Exec = exec_call
call_of op.Exit = exit_call
call_of op.Socket = socket_call
call_of op.Bind = bind_call
call_of op.Listen = listen_call
call_of op.Connect = connect_call
call_of op.Accept = accept_call
call_of op.Peek = peek_call
call_of op.SockName = sockname_call
call_of op.PeerName = peername_call
call_of op.SockErr = sockerr_call

-- only sockets have it
abbrev pub IsOfSocket : CallOp → Type 0
IsOfSocket op.Socket = Unit {0}
IsOfSocket op.Bind = Unit {0}
IsOfSocket op.Listen = Unit {0}
IsOfSocket op.Connect = Unit {0}
IsOfSocket op.Accept = Unit {0}
IsOfSocket op.Peek = Unit {0}
IsOfSocket op.SockName = Unit {0}
IsOfSocket op.PeerName = Unit {0}
IsOfSocket op.SockErr = Unit {0}
IsOfSocket o = ⊥

abbrev pub call_operation_of : CallOp → Operation
call_operation_of op = call_operation op (name_of op) (keys_of op) (call_of op)

abbrev pub operation_of : Op → Operation
operation_of (any.Call op) = call_operation_of op
operation_of any.Resume = resume_operation
operation_of any.Tick = tick_operation
